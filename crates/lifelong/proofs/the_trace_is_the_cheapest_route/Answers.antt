use Rattle.lifelong.proofs.Traces.{never_misses, none_no_route, one_true_trace, shows_cheapest}
use Rattle.lifelong.proofs.the_trace_is_the_cheapest_route.Goals as goal

pub returns : goal.returns
returns c = record {
  shows = shows_cheapest;
  none = none_no_route;
  never_misses = never_misses;
  one = one_true_trace;
}
