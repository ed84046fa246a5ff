use Rattle.lifelong.proofs.Runs.{runs_join}
use Rattle.lifelong.proofs.runs_join.Goals as goal

pub returns : goal.returns
returns c = runs_join
