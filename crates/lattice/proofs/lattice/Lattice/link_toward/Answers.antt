use Rattle.std.proofs.Common.{arith}
use Rattle.lattice_meaning.proofs.Next.{from_few}
use Rattle.lattice.specs.Layouts.{number, shape}
use Rattle.lattice.proofs.lattice.Lattice.link_toward.Goals as goal

pub overflow_mul-link : goal.overflow_mul-link
overflow_mul-link c =
    let few = from_few c.args.end (shape c.grid.result.layout) c.grid.result.within c.args.place (number c.args.toward) c.in_ok-from.from c.link_from.result c.link_from.ensures c.in_ok-from.was in
    omega arith

pub overflow_add-link : goal.overflow_add-link
overflow_add-link c =
    let few = from_few c.args.end (shape c.grid.result.layout) c.grid.result.within c.args.place (number c.args.toward) c.in_ok-from.from c.link_from.result c.link_from.ensures c.in_ok-from.was in
    omega arith
