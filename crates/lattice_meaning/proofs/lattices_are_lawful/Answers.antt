use Rattle.lattice_meaning.proofs.Lawful.{lattice_lawful}
use Rattle.lattice_meaning.proofs.lattices_are_lawful.Goals as goal

pub returns : goal.returns
returns c = lattice_lawful
