use Rattle.lifelong.proofs.Repairs.{true_not_expanded, true_remains}
use Rattle.lifelong.proofs.true_standings_are_kept.Goals as goal

pub returns : goal.returns
returns c = λ m law gs b n x d. (true_not_expanded m law gs b n x d, true_remains m law gs b n x d)
