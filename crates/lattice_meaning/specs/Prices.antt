-- What a lattice means: a chart of time prices at height 0, worked out from its shape and a number for each link number.
use Rattle.std.specs.Prelude.{◌≡◌, ℕ, ◌+◌, ◌-◌, ◌*◌, ◌<◌, ◌≤◌, true, cond, ◌&&◌, ◌||◌, List, [], ◌∷◌, map, length, Some, None, Option, ◌==◌, nat_le, slice_index}
use Rattle.rows.specs.Rows.{Price, closed, open_at}
use Rattle.price.specs.Kinds.{time_kind}
use Rattle.chart.specs.Meaning.{Link, Meaning}
use Rattle.std.specs.List.{range_with_len}
use Rattle.lattice_meaning.specs.Shape.{Shape, column, leads_from, leads_to, link_count, place_count, row}

-- an open price of so many milliseconds
abbrev pub time : ℕ → Price
time ms = open_at (ms ∷ [])

-- a number of 0 is closed
abbrev pub price_of : ℕ → Price
price_of v = cond (v == 0) closed (time v)

-- the number that a price is written as
abbrev pub number_of : Price → ℕ
number_of closed = 0
number_of (open_at []) = 0
number_of (open_at (ms ∷ more)) = ms

-- how far apart two numbers are
abbrev pub apart : ℕ → ℕ → ℕ
apart a b = (a - b) + (b - a)

-- the columns and rows between a place and the goal
abbrev pub distance : Shape → ℕ → ℕ
distance s p = apart (column s p) (column s s.goal) + apart (row s p) (row s s.goal)

-- the estimate of a place: the least step for each of them
abbrev pub estimate : Shape → ℕ → Price
estimate s p = time (s.least * distance s p)

-- the table of estimates
abbrev pub estimates : Shape → List Price
estimates s = map (estimate s) (range_with_len 0 (place_count s))

-- link number n where it leads to a place, at the price of number v
abbrev pub link_to : Shape → ℕ → ℕ → Option ℕ → Option Link
link_to s n v None = None
link_to s n v (Some to) = Some (record { from = leads_from n; to = to; floor = time s.least; price = price_of v; held = 0 })

-- the link that a number names, if it names one
abbrev pub link_named : Shape → List ℕ → ℕ → Option Link
link_named s numbers n = link_to s n (slice_index numbers n) (leads_to s n)

-- the table of links, as long as the numbers
abbrev pub links : Shape → List ℕ → List (Option Link)
links s numbers = map (link_named s numbers) (range_with_len 0 (length numbers))

-- the chart of a shape and these numbers
abbrev pub lattice : Shape → List ℕ → Meaning
lattice s numbers = record {
  kind = time_kind;
  start = s.start;
  goal = s.goal;
  height = 0;
  links = links s numbers;
  estimates = estimates s;
}

-- the rules over the numbers: no more than there are link numbers
abbrev pub Counted : Shape → List ℕ → Type 0
Counted s numbers = length numbers ≤ link_count s

-- each is 0, or between the least step and 1,000,000
abbrev pub Priced : Shape → List ℕ → Type 0
Priced s numbers = (n : ℕ) → n < length numbers → (slice_index numbers n == 0 || (nat_le s.least (slice_index numbers n) && nat_le (slice_index numbers n) 1000000)) ≡ true

-- each is 0 where no link is
abbrev pub Unlinked : Shape → List ℕ → Type 0
Unlinked s numbers = (n : ℕ) → n < length numbers → leads_to s n ≡ None → slice_index numbers n ≡ 0

-- the least step where a link leads to a place, else 0
abbrev pub first_price_to : Shape → Option ℕ → ℕ
first_price_to s None = 0
first_price_to s (Some to) = s.least

-- the first price of a link number
abbrev pub first_price : Shape → ℕ → ℕ
first_price s n = first_price_to s (leads_to s n)

-- the numbers of a lattice that was just laid out
abbrev pub first_prices : Shape → List ℕ
first_prices s = map (first_price s) (range_with_len 0 (link_count s))

-- the shape of a lattice that is not laid out yet: one cell
abbrev pub one_cell : Shape
one_cell = record { width = 1; height = 1; least = 1; start = 0; goal = 0 }

-- one place, which is start and goal, with an estimate of zero, and no link numbers
abbrev pub one_place : Meaning
one_place = record { kind = time_kind; start = 0; goal = 0; height = 0; links = []; estimates = time 0 ∷ [] }
