use Rattle.turns.proofs.Told.{told_apart}
use Rattle.turns.proofs.the_promises_tell_charts_apart.Goals as goal

pub returns : goal.returns
returns c = told_apart
