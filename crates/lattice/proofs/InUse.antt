-- The numbers in use.
use Rattle.std.proofs.Common.{◌≡◌, length}
use Rattle.std.proofs.lemmas.List.{length-take-le}
use Rattle.lattice.specs.Drawn.{numbers_of}
use Rattle.lattice.specs.declared.lattice.Lattice.{Lattice}

-- as many are in use as are counted
pub numbers_long : (l : Lattice) → length (numbers_of l) ≡ l.link_count
numbers_long l = length-take-le l.link_count l.prices.now l.room
