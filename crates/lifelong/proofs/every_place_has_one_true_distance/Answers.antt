use Rattle.chart.proofs.Chains.{closed_distance, distance_closed, one_distance, start_distance}
use Rattle.lifelong.proofs.Distances.{some_distance}
use Rattle.lifelong.proofs.every_place_has_one_true_distance.Goals as goal

pub returns : goal.returns
returns c = record {
  found = some_distance;
  one = one_distance;
  start = start_distance;
  closed = λ m law x p d. (distance_closed m law x p d, closed_distance m law x p d);
}
