-- No more slots are used than there are places.
use Rattle.std.proofs.Common.{◌≡◌, ℕ, ◌+◌, ◌<◌, ◌≤◌, true, cond, eqb, List, map, length, get_or, sym, ap, ◌∙◌, ⊎_elim, arith}
use Rattle.std.proofs.lemmas.Bool.{cases_eq, eq-eqb, eqb-true, ne_eqb, cond-true, cond-false}
use Rattle.std.proofs.lemmas.List.Folds.{Any-from_list_any}
use Rattle.std.proofs.lemmas.List.FromFn.{get_or-map-range_with_len, length-map-range_with_len}
use Rattle.std.proofs.lemmas.Map.Keys.{IsDistinct-from_apart}
use Rattle.std.proofs.lemmas.Map.Steps.{length-le_from_distinct_below}
use Rattle.std.specs.List.{list_any, range_with_len}
use Rattle.bench.specs.declared.record.Record.{Record}
use Rattle.bench.specs.Records.{in_slot, index_of}
use Rattle.bench.specs.Queue.{Queued}
use Rattle.bench.proofs.Links.{Linked}

abbrev Apart : (ℕ → ℕ) → ℕ → Type 0
Apart F n = (k l : ℕ) → k < n → l < n → F k ≡ F l → k ≡ l

-- n different numbers below m are at most m
pigeons : (m n : ℕ) (F : ℕ → ℕ) → ((k : ℕ) → k < n → F k < m) → Apart F n → n ≤ m
pigeons m n F b inj =
    let xs = map F (range_with_len 0 n) in
    let long : length xs ≡ n = length-map-range_with_len F 0 n in
    let nth : (i d : ℕ) → i < n → get_or xs i d ≡ F i = λ i d l. get_or-map-range_with_len F 0 n i i d l (omega arith) in
    let distinct = IsDistinct-from_apart eqb xs (λ i j d l lj. ne_eqb (get_or xs i d) (get_or xs j d) (λ e.
    let z = inj i j (omega arith) (omega arith) (sym (nth i d (omega arith)) ∙ e ∙ nth j d (omega arith)) in omega arith)) in
    let below : (q : ℕ) → list_any (eqb q) xs ≡ true → q < m = λ q h.
    let a = Any-from_list_any (eqb q) xs h in
    let e = eqb-true q a.1 a.4 in
    let r = nth a.0 a.1 (omega (arith, a.2)) in
    let s = b a.0 (omega (arith, a.2)) in
    let t = a.3 in
    omega arith in
    let z = length-le_from_distinct_below xs m distinct below in
    omega arith

-- where all queued places are below m, so are the used slots
pub used_at_most : {P K : Type 0} (rs : List (Record P K)) (n m : ℕ) → Linked rs n → ((k : ℕ) → k < n → in_slot rs k < m) → n ≤ m
used_at_most rs n m h b = pigeons m n (in_slot rs) b (λ k l lk ll e. sym (h.back k lk) ∙ ap (index_of rs) e ∙ h.back l ll)

-- F with p at n
abbrev then_at : (ℕ → ℕ) → ℕ → ℕ → ℕ → ℕ
then_at F n p k = cond (eqb k n) p (F k)

-- a place below m that is not queued leaves a slot below m free, where all queued places are below m
pub fewer : {P K : Type 0} (rs : List (Record P K)) (n p m : ℕ) → Linked rs n → ((k : ℕ) → k < n → in_slot rs k < m) → p < m → (Queued rs n p → ⊥) → n < m
fewer rs n p m h named lp new =
    let F = in_slot rs in
    let I = index_of rs in
    let G = then_at (in_slot rs) n p in
    let on : (k : ℕ) → k ≡ n → G k ≡ p = λ k e. cond-true (eqb k n) p (F k) (eq-eqb k n e) in
    let off : (k : ℕ) → (k ≡ n → ⊥) → G k ≡ F k = λ k u. cond-false (eqb k n) p (F k) (ne_eqb k n u) in
    let other : (k : ℕ) → k < n → F k ≡ p → ⊥ = λ k l e. let i : I p ≡ k = ap I (sym e) ∙ h.back k l in new (omega arith, ap F i ∙ e) in
    let b : (k : ℕ) → k < n + 1 → G k < m = λ k l. ⊎_elim
    (λ e. let w = on k e in omega arith) (λ u. let w = off k u in let z = named k (omega arith) in omega arith) (cases_eq k n) in
    let inj : Apart G (n + 1) = λ k l lk ll e. ⊎_elim
    (λ a. ⊎_elim (λ c. a ∙ sym c) (λ c. absurd (other l (omega arith) (sym (off l c) ∙ sym e ∙ on k a))) (cases_eq l n))
    (λ a. ⊎_elim (λ c. absurd (other k (omega arith) (sym (off k a) ∙ e ∙ on l c)))
    (λ c. sym (h.back k (omega arith)) ∙ ap I (sym (off k a) ∙ e ∙ off l c) ∙ h.back l (omega arith)) (cases_eq l n)) (cases_eq k n) in
    let r = pigeons m (n + 1) G b inj in omega arith
