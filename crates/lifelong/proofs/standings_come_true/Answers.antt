use Rattle.lifelong.proofs.Agreement.{next_taken}
use Rattle.lifelong.proofs.Steps.{taken_lowered}
use Rattle.lifelong.proofs.Traces.{closed_no_route, no_route_closed, settled_distance}
use Rattle.lifelong.proofs.standings_come_true.Goals as goal

pub returns : goal.returns
returns c = record {
  lowered = λ m law gs b p e h. taken_lowered m law gs b p (next_taken m gs p e) h;
  settled = settled_distance;
  closed = λ m law gs b t. (closed_no_route m law gs b t, no_route_closed m law gs b t);
}
