-- The order of the queue, for any order of keys: the smaller key comes first, of equal keys the lower place number.
use Rattle.std.specs.Prelude.{ℕ, Bool}
use Rattle.std.specs.declared.cmp.Ordering.{Ordering}
use Rattle.std.specs.Ordering.{is_lt, nat_cmp, ordering_then}

-- place p under key a comes before place q under key b, where cmp orders the keys
abbrev pub before_by : {K : Type 0} → (K → K → Ordering) → K → ℕ → K → ℕ → Bool
before_by cmp a p b q = is_lt (ordering_then (cmp a b) (nat_cmp p q))
