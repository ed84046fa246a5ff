use Rattle.lifelong.proofs.Repairs.{at_most_twice, ends_settled, few_steps, never_twice}
use Rattle.lifelong.proofs.repairs_end_settled.Goals as goal

pub returns : goal.returns
returns c = record {
  never_twice = never_twice;
  at_most_twice = at_most_twice;
  few = few_steps;
  settled = ends_settled;
}
