-- The charts of the worked examples, as layers and lattice make them.
use Rattle.std.specs.Prelude.{◌≡◌, [], ◌∷◌}
use Rattle.lattice_meaning.specs.Prices.{first_prices, lattice}
use Rattle.lattice_meaning.specs.Shape.{Shape}
use Rattle.layer_meaning.specs.Guarded.{guarded}
use Rattle.layer_meaning.specs.Returned.{returned}
use Rattle.lifelong.specs.Charts.{beside, guarded as guarded_three, swapped, three}

-- two cells side by side with a least step of 5, from the left one to the right one
abbrev pub two_cells : Shape
two_cells = record { width = 2; height = 1; least = 5; start = 0; goal = 1 }

pub record SameCharts : Type 0 where
  -- three places under a guard that lists place 2
  pub under_guard : guarded (2 ∷ []) three ≡ guarded_three
  -- three places the other way round
  pub turned_round : returned three ≡ swapped
  -- the lattice as it is laid out
  pub laid_out : lattice two_cells (first_prices two_cells) ≡ beside
