-- One place of a column of the memory: read, and written.
use Rattle.std.proofs.Common.{◌≡◌, ℕ, zero, suc, ◌<◌, ◌≤◌, Bool, true, false, ltb, List, [], ◌∷◌, length, get_or, set, Some, None, Option, unwrap_or, sym, refl, ap, ◌∙◌, ⊎_elim, arith}
use Rattle.std.proofs.lemmas.List.{get_or-set_other, length-map, set_past}
use Rattle.std.proofs.lemmas.Bool.{cases_Bool, ltb-false}
use Rattle.std.proofs.lemmas.Option.{slice_get-get_or}
use Rattle.std.specs.List.{slice_get}
use Rattle.std.specs.Option.{option_map}
use Rattle.rows.specs.Rows.{Price}
use Rattle.bench.specs.declared.bench.Bench.{Bench}
use Rattle.bench.specs.declared.key.Key.{Key as PriceKey}
use Rattle.bench.specs.Contents.{keys, lookaheads, room, standings}

nth_value : {X : Type 0} (xs : List X) (i : ℕ) (d : X) → unwrap_or (slice_get xs i) d ≡ get_or xs i d
nth_value [] i d = refl
nth_value (x ∷ xs) zero d = refl
nth_value (x ∷ xs) (suc i) d = nth_value xs i d

-- an answer that is none past the column, and the value that stands for none
pub read : {X : Type 0} (xs : List X) (i : ℕ) (d : X) (o : Option X) → o ≡ slice_get xs i → unwrap_or o d ≡ get_or xs i d
read xs i d o e = ap (λ x. unwrap_or x d) e ∙ nth_value xs i d

-- a value read from a column, or the one that stands for none
pub read_or : {P X : Type 0} (v : P → X) (o : Option P) (d : P) (xs : List X) (i : ℕ) (e : X) → option_map v o ≡ slice_get xs i → v d ≡ e →
    v (unwrap_or o d) ≡ get_or xs i e
read_or v None d xs i e h c = c ∙ read xs i e None h
read_or v (Some x) d xs i e h c = read xs i e (Some (v x)) h

module _ {P : Type 0} (v : P → Price) (b : Bench P (PriceKey P)) where
  pub standings_long : length (standings v b) ≡ room b
  standings_long = length-map b.records.now _

  pub lookaheads_long : length (lookaheads v b) ≡ room b
  lookaheads_long = length-map b.records.now _

  pub keys_long : length (keys v b) ≡ room b
  keys_long = length-map b.records.now _

-- a write past the column, which is refused, is one all the same: it changes nothing
pub written : {X : Type 0} (r : Bool) (p n : ℕ) (xs ys : List X) (x : X) → r ≡ ltb p n → length xs ≡ n →
    (r ≡ true → ys ≡ set xs p x) → (r ≡ false → ys ≡ xs) → ys ≡ set xs p x
written r p n xs ys x e l t f = ⊎_elim t
    (λ (z : r ≡ false). let past : length xs ≤ p = omega (arith, ltb-false p n (sym e ∙ z)) in f z ∙ sym (set_past xs p x past)) (cases_Bool r)

-- a write at one place, taken or refused, is none at another
pub apart : {X : Type 0} (r : Bool) (p q : ℕ) (xs ys : List X) (x d : X) → (q ≡ p → ⊥) →
    (r ≡ true → ys ≡ set xs p x) → (r ≡ false → ys ≡ xs) → get_or ys q d ≡ get_or xs q d
apart r p q xs ys x d u t f = ⊎_elim
    (λ (z : r ≡ true). ap (λ zs. get_or zs q d) (t z) ∙ get_or-set_other xs p q x d u) (λ (z : r ≡ false). ap (λ zs. get_or zs q d) (f z)) (cases_Bool r)

-- inside the column there is an answer
pub answers : {X : Type 0} (xs : List X) (i : ℕ) (d : X) → i < length xs → None ≡ slice_get xs i → ⊥
answers xs i d l e = let s = slice_get-get_or xs i d l in let z : ◌≡◌ {A = ℕ} 0 1 = cc in omega arith
