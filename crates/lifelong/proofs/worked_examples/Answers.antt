use Rattle.lifelong.proofs.Witness.{refused, table_holds}
use Rattle.lifelong.proofs.worked_examples.Goals as goal

pub returns : goal.returns
returns c = record {
  table = table_holds;
  refused = refused;
}
