use Rattle.lifelong.proofs.Traces.{one_trace}
use Rattle.lifelong.proofs.equal_charts_equal_routes.Goals as goal

pub returns : goal.returns
returns c = one_trace
