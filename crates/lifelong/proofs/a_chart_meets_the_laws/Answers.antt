use Rattle.lifelong.proofs.Witness.{premises_met}
use Rattle.lifelong.proofs.a_chart_meets_the_laws.Goals as goal

pub returns : goal.returns
returns c = premises_met
