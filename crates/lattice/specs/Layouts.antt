-- Layouts, and the directions and cells of a lattice as the code steps through them.
use Rattle.std.specs.Prelude.{ℕ, ◌+◌, ◌-◌, cond, ◌&&◌, Some, None, Option, nat_le}
use Rattle.chart.specs.Refusals.{Refusal}
use Rattle.lattice_meaning.specs.Directions.{Direction}
use Rattle.lattice_meaning.specs.Shape.{Shape, in_limits}
use Rattle.lattice.specs.declared.direction.Direction.{Direction as Toward}
use Rattle.lattice.specs.declared.direction.Direction.TheVariants.{Up, Right, Down, Left}
use Rattle.lattice.specs.declared.layout.Layout.{Layout}

-- the shape that a layout stands for
abbrev pub shape : Layout → Shape
shape l = record { width = l.width; height = l.height; least = l.least; start = l.start; goal = l.goal }

-- why it may not be laid out, however long the memory is
abbrev pub shape_refusal : Shape → Option Refusal
shape_refusal s = cond (in_limits s) None (Some (record { by = 2; link = None; height = 0 }))

-- the number of a direction
abbrev pub number : Toward → ℕ
number Up = 0
number Right = 1
number Down = 2
number Left = 3

-- the cell next to cell (x, y) in a direction, unless a number would fall below 0
abbrev pub next_cell : Direction → ℕ → ℕ → Option (ℕ × ℕ)
next_cell d x y = cond (nat_le d.left x && nat_le d.up y) (Some (x + d.right - d.left, y + d.down - d.up)) None
