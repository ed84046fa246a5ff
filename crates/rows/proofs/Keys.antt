-- Keys, and places under their keys, are totally ordered.
use Rattle.std.proofs.Common.{◌≡◌, ℕ, Bool, true, false, ltb, ⊎_elim, arith}
use Rattle.std.proofs.lemmas.Bool.{both_ways, le-ltb, ltb-false, ltb-true}
use Rattle.rows.specs.Rows.{less}
use Rattle.rows.specs.Keys.{Key, before, key_less}
use Rattle.rows.proofs.Lexicographic.{Chains, OneWay, in_turn_failed, lex_chain, lex_one_way}
use Rattle.rows.proofs.Order.{less_chain, less_one_way}

-- the two parts of a key, and the two of a place under its key
abbrev whole_less : Key → Key → Bool
whole_less a b = less a.whole b.whole

abbrev own_less : Key → Key → Bool
own_less a b = less a.own b.own

abbrev Placed : Type 0
Placed = Key × ℕ

abbrev under_less : Placed → Placed → Bool
under_less a b = key_less a.0 b.0

abbrev place_less : Placed → Placed → Bool
place_less a b = ltb a.1 b.1

pub key_chain : Chains key_less
key_chain = lex_chain whole_less own_less (λ a b c. less_chain a.whole b.whole c.whole) (λ a b c. less_chain a.own b.own c.own)

pub key_one_way : OneWay key_less
key_one_way = lex_one_way whole_less own_less (λ a b. less_one_way a.whole b.whole) (λ a b. less_one_way a.own b.own)

pub before_chain : (a b c : Key) (p q r : ℕ) → before b q a p ≡ false → before c r b q ≡ false → before c r a p ≡ false
before_chain a b c p q r = lex_chain under_less place_less (λ x y z. key_chain x.0 y.0 z.0)
    (λ x y z h i. le-ltb z.1 x.1 (omega (arith, ltb-false y.1 x.1 h, ltb-false z.1 y.1 i))) (a, p) (b, q) (c, r)

pub before_one_way : (a b : Key) (p q : ℕ) → before a p b q ≡ true → before b q a p ≡ false
before_one_way a b p q = lex_one_way under_less place_less (λ x y. key_one_way x.0 y.0)
    (λ x y h. le-ltb y.1 x.1 (omega (arith, ltb-true x.1 y.1 h))) (a, p) (b, q)

-- neither comes before the other: it is one place
pub before_total : (a b : Key) (p q : ℕ) → before a p b q ≡ false → before b q a p ≡ false → p ≡ q
before_total a b p q x y =
    let s = in_turn_failed (key_less a b) (key_less b a) (ltb p q) x in
    let t = in_turn_failed (key_less b a) (key_less a b) (ltb q p) y in
    ⊎_elim (λ (e : key_less b a ≡ true). absurd (both_ways (key_less b a) t.0 e))
    (λ (e : ltb p q ≡ false). ⊎_elim
    (λ (d : key_less a b ≡ true). absurd (both_ways (key_less a b) s.0 d))
    (λ (d : ltb q p ≡ false). omega (arith, ltb-false p q e, ltb-false q p d)) t.1) s.1

-- what does not come before has no smaller key
pub before_key : (a b : Key) (p q : ℕ) → before a p b q ≡ false → key_less a b ≡ false
before_key a b p q h = (in_turn_failed (key_less a b) (key_less b a) (ltb p q) h).0
