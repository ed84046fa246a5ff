-- A price is closed, or open with a row of whole numbers. Order and sum of prices, for every kind.
use Rattle.std.specs.Prelude.{◌≡◌, ℕ, ◌+◌, Bool, true, false, cond, ◌&&◌, List, [], ◌∷◌, length, replicate, Some, None, Option, ◌==◌, nat_le, nat_lt}
use Rattle.std.specs.List.{slice_get}

-- price: the cost of an edge or of a path
pub data Price : Type 0 where
  closed : Price
  open_at : List ℕ → Price

-- what a kind of price fixes: the length of its rows, the ceiling that no number reaches,
-- and the largest number that a link may have at each position
pub record Kind : Type 0 where
  pub long : ℕ
  pub ceiling : ℕ
  pub largest : List ℕ

-- the row that is smaller at the first difference; a row that ends there is the smaller one
abbrev pub row_less : List ℕ → List ℕ → Bool
row_less [] [] = false
row_less [] (y ∷ ys) = true
row_less (x ∷ xs) [] = false
row_less (x ∷ xs) (y ∷ ys) = cond (x == y) (row_less xs ys) (nat_lt x y)

-- closed is above every row
abbrev pub less : Price → Price → Bool
less closed q = false
less (open_at xs) closed = true
less (open_at xs) (open_at ys) = row_less xs ys

abbrev pub smaller : Price → Price → Price
smaller p q = cond (less p q) p q

-- number by number
abbrev pub add_rows : List ℕ → List ℕ → List ℕ
add_rows [] ys = []
add_rows (x ∷ xs) [] = []
add_rows (x ∷ xs) (y ∷ ys) = (x + y) ∷ add_rows xs ys

abbrev pub all_below : ℕ → List ℕ → Bool
all_below c [] = true
all_below c (x ∷ xs) = nat_lt x c && all_below c xs

-- a row whose numbers are below the ceiling is a price; any other is closed
abbrev pub capped : Kind → List ℕ → Price
capped k xs = cond (all_below k.ceiling xs) (open_at xs) closed

-- closed if a part is closed, or if a number reaches the ceiling
abbrev pub sum : Kind → Price → Price → Price
sum k closed q = closed
sum k (open_at xs) closed = closed
sum k (open_at xs) (open_at ys) = capped k (add_rows xs ys)

-- the zero of a kind: a row of 0
abbrev pub zero_of : Kind → Price
zero_of k = open_at (replicate k.long 0)

-- open and of the kind's length, with numbers below the ceiling
abbrev pub is_row : Kind → List ℕ → Bool
is_row k xs = length xs == k.long && all_below k.ceiling xs

-- the price with these numbers, or none where they are no row of the kind
abbrev pub price_of : Kind → List ℕ → Option Price
price_of k xs = cond (is_row k xs) (Some (open_at xs)) None

-- the number at a position of an open price: none past the row, or if the price is closed
abbrev pub number_at : Price → ℕ → Option ℕ
number_at closed n = None
number_at (open_at xs) n = slice_get xs n

-- row by row at most as large, and of the same length
abbrev pub at_most : List ℕ → List ℕ → Bool
at_most [] [] = true
at_most [] (y ∷ ys) = false
at_most (x ∷ xs) [] = false
at_most (x ∷ xs) (y ∷ ys) = nat_le x y && at_most xs ys

-- a price that a link may have: closed, or no number above the kind's largest
abbrev pub linkable : Kind → Price → Bool
linkable k closed = true
linkable k (open_at xs) = at_most xs k.largest

abbrev pub is_open : Price → Bool
is_open closed = false
is_open (open_at xs) = true

-- closed, or a row of the kind: all that a value of a price type can be
abbrev pub Proper : Kind → Price → Type 0
Proper k closed = Unit {0}
Proper k (open_at xs) = is_row k xs ≡ true
