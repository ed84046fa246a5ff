-- What a lattice means.
use Rattle.std.specs.Prelude.{ℕ, List, take}
use Rattle.chart.specs.Lawful.{Lawful}
use Rattle.chart.specs.Meaning.{Meaning}
use Rattle.lattice_meaning.specs.Prices.{lattice}
use Rattle.lattice_meaning.proofs.Lawful.{lattice_lawful}
use Rattle.lattice.specs.Layouts.{shape}
use Rattle.lattice.specs.declared.lattice.Lattice.{Lattice}

-- the numbers in use: the first of the memory
abbrev pub numbers_of : Lattice → List ℕ
numbers_of c = take c.link_count c.prices.now

-- time prices, height 0, over the numbers in use
abbrev pub chart_of : Lattice → Meaning
chart_of c = lattice (shape c.layout) (numbers_of c)

-- its laws follow from the rules that every value of the type keeps
pub chart_lawful : (c : Lattice) → Lawful (chart_of c)
chart_lawful c = lattice_lawful (shape c.layout) (numbers_of c) c.within c.counted c.priced
