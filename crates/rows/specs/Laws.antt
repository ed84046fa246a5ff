-- What the order and the sum of prices keep, for every kind.
use Rattle.std.specs.Prelude.{◌≡◌, ◌≤◌, true, false, length}
use Rattle.rows.specs.Rows.{Price, Kind, less, sum, zero_of, is_open, Proper}

-- the order is total, at rows of any lengths
pub record TotalOrder : Type 0 where
  pub irreflexive : (p : Price) → less p p ≡ false
  pub one_way : (p q : Price) → less p q ≡ true → less q p ≡ false
  pub transitive : (p q r : Price) → less p q ≡ true → less q r ≡ true → less p r ≡ true
  pub total : (p q : Price) → less p q ≡ false → less q p ≡ false → p ≡ q

-- a kind of price
pub record Laws (k : Kind) : Type 0 where
  -- a row has a number, and each position its largest
  pub some : 1 ≤ k.long
  pub measured : length k.largest ≡ k.long
  -- adding one row to two keeps their order, strictly and in equality, where both sums are open
  pub keeps_order : (p q r : Price) → Proper k p → Proper k q → Proper k r →
      is_open (sum k p r) ≡ true → is_open (sum k q r) ≡ true → less (sum k p r) (sum k q r) ≡ less p q
  pub keeps_equality : (p q r : Price) → Proper k p → Proper k q → Proper k r →
      is_open (sum k p r) ≡ true → is_open (sum k q r) ≡ true → sum k p r ≡ sum k q r → p ≡ q
  -- a sum is a price of the kind, however it is bracketed and in either order
  pub proper_sum : (p q : Price) → Proper k p → Proper k q → Proper k (sum k p q)
  pub associative : (p q r : Price) → Proper k p → Proper k q → Proper k r → sum k (sum k p q) r ≡ sum k p (sum k q r)
  pub commutative : (p q : Price) → sum k p q ≡ sum k q p
  pub zero_neutral : (p : Price) → Proper k p → sum k (zero_of k) p ≡ p

abbrev pub SumLaws : Type 0
SumLaws = (k : Kind) → 1 ≤ k.long → length k.largest ≡ k.long → Laws k
