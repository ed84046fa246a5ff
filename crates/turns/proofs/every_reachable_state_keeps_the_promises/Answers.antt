use Rattle.turns.proofs.Promised.{promised}
use Rattle.turns.proofs.every_reachable_state_keeps_the_promises.Goals as goal

pub returns : goal.returns
returns c = promised
