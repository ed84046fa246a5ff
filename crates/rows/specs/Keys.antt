-- Keys: the order in which places are taken.
use Rattle.std.specs.Prelude.{ℕ, Bool, true, false, cond, nat_lt}
use Rattle.rows.specs.Rows.{Price, less}

-- key: the priority of a place, the pair (m + estimate, m), where m is the smaller of its two prices
pub record Key : Type 0 where
  pub whole : Price
  pub own : Price

-- the first test decides where it holds either way, else the last
abbrev pub in_turn : Bool → Bool → Bool → Bool
in_turn below above rest = cond below true (cond above false rest)

-- first parts are compared first
abbrev pub key_less : Key → Key → Bool
key_less a b = in_turn (less a.whole b.whole) (less b.whole a.whole) (less a.own b.own)

-- the smaller key comes first, of equals the lower number: place p with key a comes before place q with key b
abbrev pub before : Key → ℕ → Key → ℕ → Bool
before a p b q = in_turn (key_less a b) (key_less b a) (nat_lt p q)
