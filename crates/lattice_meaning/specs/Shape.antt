-- The cells of a lattice, and where its link numbers lead.
use Rattle.std.specs.Prelude.{ℕ, ◌+◌, ◌-◌, ◌*◌, ◌/◌, ◌%◌, Bool, cond, ◌&&◌, Some, None, Option, nat_le, nat_lt}
use Rattle.chart.specs.Refusals.{Refusal}
use Rattle.lattice_meaning.specs.Directions.{Direction, direction, links_per_place}

-- columns, rows, the least step, and two places
pub record Shape : Type 0 where
  pub width : ℕ
  pub height : ℕ
  pub least : ℕ
  pub start : ℕ
  pub goal : ℕ

-- a place for each cell
abbrev pub place_count : Shape → ℕ
place_count s = s.width * s.height

-- a link number for each direction at each place
abbrev pub link_count : Shape → ℕ
link_count s = links_per_place * place_count s

-- 1 to 64 columns and rows, a least step of 1 to 1,000,000, start and goal among the places
abbrev pub in_limits : Shape → Bool
in_limits s =
    (nat_le 1 s.width && nat_le s.width 64 && nat_le 1 s.height && nat_le s.height 64)
    && (nat_le 1 s.least && nat_le s.least 1000000)
    && (nat_lt s.start (place_count s) && nat_lt s.goal (place_count s))

-- cell (x, y) is place y × width + x: x is its column
abbrev pub column : Shape → ℕ → ℕ
column s p = p % s.width

-- and y its row
abbrev pub row : Shape → ℕ → ℕ
row s p = p / s.width

-- the column that a direction leads to
abbrev pub next_column : Shape → Direction → ℕ → ℕ
next_column s d p = column s p + d.right - d.left

-- the row that a direction leads to
abbrev pub next_row : Shape → Direction → ℕ → ℕ
next_row s d p = row s p + d.down - d.up

-- a direction leads from a place of the lattice to a cell of the lattice
abbrev pub stays_inside : Shape → Direction → ℕ → Bool
stays_inside s d p =
    nat_lt p (place_count s)
    && (nat_le d.left (column s p) && nat_lt (next_column s d p) s.width)
    && (nat_le d.up (row s p) && nat_lt (next_row s d p) s.height)

-- the neighbour of a place in a direction, if it has one
abbrev pub neighbour : Shape → Direction → ℕ → Option ℕ
neighbour s d p = cond (stays_inside s d p) (Some (next_row s d p * s.width + next_column s d p)) None

-- the place that a link number leads from; the numbers of one place follow each other
abbrev pub leads_from : ℕ → ℕ
leads_from n = n / links_per_place

-- the place that a link number leads to, if it names a link
abbrev pub leads_to : Shape → ℕ → Option ℕ
leads_to s n = neighbour s (direction (n % links_per_place)) (leads_from n)

-- why laying a lattice out over a memory of so many numbers is refused, if it is: 2 a size, a place or the least step is
-- outside its limits, 9 the memory has fewer numbers than there are link numbers
abbrev pub layout_refusal : Shape → ℕ → Option Refusal
layout_refusal s room =
    cond (in_limits s)
    (cond (nat_le (link_count s) room) None (Some (record { by = 9; link = None; height = 0 })))
    (Some (record { by = 2; link = None; height = 0 }))
