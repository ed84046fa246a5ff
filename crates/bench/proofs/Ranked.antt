-- Places by their keys are an order with ties.
use Rattle.std.proofs.Common.{◌≡◌, ℕ, Bool, true, false, List, map, set, Some, None, Option, refl, ap, ◌∙◌}
use Rattle.std.proofs.lemmas.Bool.{both_ways}
use Rattle.std.proofs.lemmas.Cmp.{nat_cmp_total, on_total, then_total}
use Rattle.std.proofs.lemmas.List.MinMax.{ranks_by}
use Rattle.std.proofs.lemmas.Option.{slice_get-map}
use Rattle.std.specs.Cmp.{IsStrictWeakOrder, IsTotalOrder}
use Rattle.std.specs.declared.cmp.Ordering.{Ordering}
use Rattle.std.specs.Option.{option_map}
use Rattle.std.specs.List.{slice_get}
use Rattle.bench.specs.Order.{before_by}
use Rattle.bench.specs.Sorted.{ahead, sooner}
use Rattle.bench.proofs.Columns.{nth_set_other}

-- of places with their keys, one comes before the other or neither does, and not to come before is transitive
abbrev pub Weak : {K : Type 0} → (K → ℕ → K → ℕ → Bool) → Type 0
Weak {K} before = IsStrictWeakOrder {X = K × ℕ} (λ x y. before x.0 x.1 y.0 y.1)

pub weak : {K : Type 0} (cmp : K → K → Ordering) → IsTotalOrder cmp → Weak (before_by cmp)
weak cmp o = ranks_by (then_total (on_total (λ x. x.0) o) (on_total (λ x. x.1) nat_cmp_total)) (λ x. x)

module _ {K : Type 0} (before : K → ℕ → K → ℕ → Bool) (w : Weak before) where
  one_way : (a b : Option K) (p q : ℕ) → sooner before a p b q ≡ true → sooner before b q a p ≡ false
  one_way None b p q h = absurd (both_ways false refl h)
  one_way (Some a) None p q h = refl
  one_way (Some a) (Some b) p q h = w.one_way (a, p) (b, q) h

  chain : (a b c : Option K) (p q r : ℕ) → sooner before a p b q ≡ false → sooner before b q c r ≡ false → sooner before a p c r ≡ false
  chain None b c p q r h k = refl
  chain (Some a) None c p q r h k = absurd (both_ways true h refl)
  chain (Some a) (Some b) None p q r h k = absurd (both_ways true k refl)
  chain (Some a) (Some b) (Some c) p q r h k = w.chain (a, p) (b, q) (c, r) h k

  pub ranks : (ks : List K) → IsStrictWeakOrder (ahead before ks)
  unfolding ahead
  ranks ks = record {
    one_way = λ x y h. one_way (slice_get ks x) (slice_get ks y) x y h;
    chain = λ x y z h k. chain (slice_get ks x) (slice_get ks y) (slice_get ks z) x y z h k;
  }

module _ {K : Type 0} (before : K → ℕ → K → ℕ → Bool) where
  -- two places whose keys are known
  pub ahead_keys : (ks : List K) (p q : ℕ) (a b : K) → slice_get ks p ≡ Some a → slice_get ks q ≡ Some b → ahead before ks p q ≡ before a p b q
  unfolding ahead
  ahead_keys ks p q a b d e = λ i. sooner before (d i) p (e i) q

  -- another key for place p changes the order at p alone
  pub ahead_other : (ks ls : List K) (p x y : ℕ) (key : K) → ls ≡ set ks p key → (x ≡ p → ⊥) → (y ≡ p → ⊥) → ahead before ls x y ≡ ahead before ks x y
  unfolding ahead
  ahead_other ks ls p x y key e u w =
      let same : (z : ℕ) → (z ≡ p → ⊥) → slice_get ls z ≡ slice_get ks z = λ z v. ap (λ ms. slice_get ms z) e ∙ nth_set_other ks p z key v in
      λ i. sooner before (same x u i) x (same y w i) y

-- an order of what the keys stand for
module _ {K L : Type 0} (v : K → L) (before : L → ℕ → L → ℕ → Bool) where
  sooner_mapped : (a b : Option K) (p q : ℕ) → sooner before (option_map v a) p (option_map v b) q ≡ sooner (λ x m y n. before (v x) m (v y) n) a p b q
  sooner_mapped None b p q = refl
  sooner_mapped (Some a) None p q = refl
  sooner_mapped (Some a) (Some b) p q = refl

  pub ahead_mapped : (ks : List K) → ahead before (map v ks) ≡ ahead (λ x m y n. before (v x) m (v y) n) ks
  unfolding ahead
  ahead_mapped ks =
      let same : (p q : ℕ) → ahead before (map v ks) p q ≡ ahead (λ x m y n. before (v x) m (v y) n) ks p q =
      λ p q. (λ i. sooner before (slice_get-map v ks p i) p (slice_get-map v ks q i) q) ∙ sooner_mapped (slice_get ks p) (slice_get ks q) p q in
      λ i p q. same p q i
