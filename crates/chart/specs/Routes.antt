-- Chains, routes and true distances over a chart's meaning.
use Rattle.std.specs.Prelude.{◌≡◌, ℕ, Bool, true, false, cond, ◌&&◌, ◌⊎◌, List, [], ◌∷◌, reverse, Some, None, Option, ◌==◌}
use Rattle.rows.specs.Rows.{Price, closed, is_open, less, smaller, sum, zero_of}
use Rattle.chart.specs.Meaning.{Link, Meaning, link_at}

-- a stands in the list
abbrev pub Among : {A : Type 0} → A → List A → Type 0
Among a [] = ⊥
Among a (x ∷ xs) = (a ≡ x) ⊎ Among a xs

-- nothing stands in the list twice
abbrev pub Distinct : {A : Type 0} → List A → Type 0
Distinct [] = Unit {0}
Distinct (x ∷ xs) = (Among x xs → ⊥) × Distinct xs

-- chain: a path from the start over open links that meets no place twice. It has its last place, all its places, the
-- last one first, and its price, the sum of its links' prices.
pub data Chain (m : Meaning) : ℕ → List ℕ → Price → Type 0 where
  begin : Chain m m.start (m.start ∷ []) (zero_of m.kind)
  more : {ps : List ℕ} {p : Price} (n : ℕ) (l : Link) → link_at m n ≡ Some l → is_open l.price ≡ true →
      Chain m l.from ps p → (Among l.to ps → ⊥) → Chain m l.to (l.to ∷ ps) (sum m.kind p l.price)

-- route: a chain from the start to the goal, with its places, the start first, and its price
abbrev pub Route : Meaning → List ℕ → Price → Type 0
Route m ps p = Chain m m.goal (reverse ps) p

-- there is no route
abbrev pub NoRoute : Meaning → Type 0
NoRoute m = (ps : List ℕ) (p : Price) → Route m ps p → ⊥

-- true distance: the start distance of a place. No chain to it costs less; a chain has it, or it is closed and there is
-- no chain
pub record TrueDistance (m : Meaning) (x : ℕ) (p : Price) : Type 0 where
  pub least : (ps : List ℕ) (q : Price) → Chain m x ps q → less q p ≡ false
  pub met : ((ps : List ℕ) × Chain m x ps p) ⊎ ((p ≡ closed) × ((ps : List ℕ) (q : Price) → Chain m x ps q → ⊥))

-- the smallest cost of the links of a list that pass a test, closed if there is none
unfoldable pub least_over : (Option Link → Bool) → (Option Link → Price) → List (Option Link) → Price
least_over test cost [] = closed
least_over test cost (l ∷ ls) = cond (test l) (smaller (cost l) (least_over test cost ls)) (least_over test cost ls)

-- it leads from place a to place b
abbrev pub joins : ℕ → ℕ → Option Link → Bool
joins a b None = false
joins a b (Some l) = l.from == a && l.to == b

-- its price, closed where the number names no link
abbrev pub link_price : Option Link → Price
link_price None = closed
link_price (Some l) = l.price

-- the lowest price of the links from place a to place b, closed if none is open
abbrev pub cheapest : Meaning → ℕ → ℕ → Price
cheapest m a b = least_over (joins a b) link_price m.links

-- the price from a place on, along a list of places, by the cheapest open links between neighbours
unfoldable pub price_along : Meaning → ℕ → List ℕ → Price
price_along m a [] = zero_of m.kind
price_along m a (b ∷ ps) = sum m.kind (cheapest m a b) (price_along m b ps)

-- the price of a list of places, the start first: zero at one place, closed where two neighbours have no open link
abbrev pub places_price : Meaning → List ℕ → Price
places_price m [] = closed
places_price m (a ∷ ps) = price_along m a ps
