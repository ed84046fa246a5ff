use Rattle.std.proofs.Common.{sym, ◌∙◌}
use Rattle.lattice_meaning.proofs.Table.{links_long}
use Rattle.lattice.proofs.InUse.{numbers_long}
use Rattle.lattice.specs.Drawn.{numbers_of}
use Rattle.lattice.specs.Layouts.{shape}
use Rattle.lattice.proofs.lattice.Lattice.table_length.Goals as goal

pub returns : goal.returns
returns c =
    let l = c.args.self.now in
    sym (links_long (shape l.layout) (numbers_of l) ∙ numbers_long l)
