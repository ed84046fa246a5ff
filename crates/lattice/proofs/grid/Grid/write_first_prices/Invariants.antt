use Rattle.std.proofs.Common.{◌≡◌, ◌++◌, map, drop}
use Rattle.std.specs.List.{range_with_len}
use Rattle.lattice_meaning.specs.Prices.{first_price}
use Rattle.lattice.specs.Layouts.{shape}
use Rattle.lattice.proofs.grid.Grid.write_first_prices.Given as goal

-- the first prices so far, then the memory as it was
abbrev pub invariant-loop-link : goal.invariant-loop-link
invariant-loop-link l = l.first ≡ map (first_price (shape l.self.layout)) (range_with_len 0 l.link) ++ drop l.link l.initial.first
