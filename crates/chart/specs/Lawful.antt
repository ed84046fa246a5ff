-- The laws of a chart.
use Rattle.std.specs.Prelude.{◌≡◌, ℕ, ◌+◌, ◌*◌, ◌<◌, ◌≤◌, true, false, List, [], ◌∷◌, length, Some, None, Option}
use Rattle.rows.specs.Rows.{Kind, Price, closed, is_open, less, linkable, open_at, sum, zero_of}
use Rattle.chart.specs.Meaning.{Link, Meaning, estimate_at, link_at, places}

-- a link of a chart with so many places, at a height
pub record LawfulLink (k : Kind) (count height : ℕ) (l : Link) : Type 0 where
  -- two different places of the chart
  pub from_in : l.from < count
  pub to_in : l.to < count
  pub apart : l.from ≡ l.to → ⊥
  -- the floor is open, above zero, and no number is above the kind's largest
  pub floor_open : is_open l.floor ≡ true
  pub floor_above : less (zero_of k) l.floor ≡ true
  pub floor_fits : linkable k l.floor ≡ true
  -- the price is closed or at least the floor, and no number is above the kind's largest
  pub price_above : less l.price l.floor ≡ false
  pub price_fits : linkable k l.price ≡ true
  -- only a layer of the chart holds it
  pub held_by : l.held ≤ height

abbrev pub LinkLaw : Kind → ℕ → ℕ → Option Link → Type 0
LinkLaw k count height None = Unit {0}
LinkLaw k count height (Some l) = LawfulLink k count height l

-- a row of the kind that leaves room below the ceiling, at each position, for 4,096 times the largest number
abbrev pub Room : ℕ → List ℕ → List ℕ → Type 0
Room ceiling [] [] = Unit {0}
Room ceiling [] (e ∷ es) = ⊥
Room ceiling (l ∷ ls) [] = ⊥
Room ceiling (l ∷ ls) (e ∷ es) = (4096 * l + e < ceiling) × Room ceiling ls es

-- an estimate is open
abbrev pub EstimateLaw : Kind → Price → Type 0
EstimateLaw k closed = ⊥
EstimateLaw k (open_at es) = Room k.ceiling k.largest es

-- along a link, the estimate of its from place is at most its floor plus the estimate of its to place
abbrev pub Consistent : Meaning → Option Link → Type 0
Consistent m None = Unit {0}
Consistent m (Some l) = less (sum m.kind l.floor (estimate_at m l.to)) (estimate_at m l.from) ≡ false

pub record Lawful (m : Meaning) : Type 0 where
  -- the kind's rows have a number, and each position its largest
  pub some : 1 ≤ m.kind.long
  pub measured : length m.kind.largest ≡ m.kind.long
  -- sizes
  pub places_few : places m ≤ 4096
  pub start_in : m.start < places m
  pub goal_in : m.goal < places m
  pub links_few : length m.links ≤ 16384
  pub height_low : m.height ≤ 255
  -- links
  pub links_law : (n : ℕ) → LinkLaw m.kind (places m) m.height (link_at m n)
  -- estimates
  pub estimates_law : (p : ℕ) → p < places m → EstimateLaw m.kind (estimate_at m p)
  pub goal_zero : estimate_at m m.goal ≡ zero_of m.kind
  pub consistent : (n : ℕ) → Consistent m (link_at m n)
