use Rattle.std.proofs.Common.{sym}
use Rattle.lattice_meaning.proofs.Table.{estimates_long}
use Rattle.lattice.specs.Layouts.{shape}
use Rattle.lattice.proofs.grid.Grid.places.Goals as goal

pub returns-clause-table : goal.returns-clause-table
returns-clause-table c = sym (estimates_long (shape c.args.self.layout))
