use Rattle.lifelong.proofs.Limits.{closed_within, keys_open, priced_within, sums_open}
use Rattle.lifelong.proofs.Repairs.{run_bounds}
use Rattle.lifelong.proofs.Steps.{step_bounds}
use Rattle.lifelong.proofs.sums_stay_below_the_ceiling.Goals as goal

pub returns : goal.returns
returns c = record {
  closed = closed_within;
  priced = priced_within;
  step = step_bounds;
  run = run_bounds;
  sums = sums_open;
  keys = keys_open;
}
