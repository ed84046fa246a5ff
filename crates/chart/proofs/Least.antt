-- The smallest cost of the links that pass a test.
use Rattle.std.proofs.Common.{◌≡◌, ℕ, zero, suc, Bool, true, false, cond, List, [], ◌∷◌, get_or, set, Some, None, Option, sym, refl, ap, ◌∙◌, subst, ⊎_elim, arith}
use Rattle.std.proofs.lemmas.Bool.{both_ways, cases_Bool, cond-false, cond-true}
use Rattle.rows.specs.Rows.{Price, closed, is_open, less, smaller}
use Rattle.rows.proofs.Order.{less_chain, less_one_way, less_self}
use Rattle.rows.proofs.Smaller.{smaller_left, smaller_right}
use Rattle.chart.specs.Meaning.{Link}
use Rattle.chart.specs.Routes.{least_over}

-- the smaller of two is above neither
smaller_below : (p q : Price) → (less p (smaller p q) ≡ false) × (less q (smaller p q) ≡ false)
smaller_below p q = ⊎_elim
    (λ (t : less p q ≡ true). rw (smaller_left p q t) (less_self p, less_one_way p q t))
    (λ (f : less p q ≡ false). rw (smaller_right p q f) (f, less_self q)) (cases_Bool (less p q))

module _ (test : Option Link → Bool) (cost : Option Link → Price) where
  pub least_none : least_over test cost [] ≡ closed
  unfolding least_over
  least_none = refl

  pub least_skip : (l : Option Link) (ls : List (Option Link)) → test l ≡ false → least_over test cost (l ∷ ls) ≡ least_over test cost ls
  unfolding least_over
  least_skip l ls e = cond-false (test l) (smaller (cost l) (least_over test cost ls)) (least_over test cost ls) e

  pub least_take : (l : Option Link) (ls : List (Option Link)) → test l ≡ true → least_over test cost (l ∷ ls) ≡ smaller (cost l) (least_over test cost ls)
  unfolding least_over
  least_take l ls e = cond-true (test l) (smaller (cost l) (least_over test cost ls)) (least_over test cost ls) e

  -- no link that passes costs less
  pub least_below : (ls : List (Option Link)) (n : ℕ) (l : Link) → get_or ls n None ≡ Some l → test (Some l) ≡ true →
      less (cost (Some l)) (least_over test cost ls) ≡ false
  least_below [] n l e j = let z : ◌≡◌ {A = ℕ} 0 1 = cc in absurd (omega arith)
  least_below (k ∷ ls) zero l e j =
      let q : least_over test cost (k ∷ ls) ≡ smaller (cost (Some l)) (least_over test cost ls) =
      least_take k ls (ap test e ∙ j) ∙ ap (λ z. smaller (cost z) (least_over test cost ls)) e in
      rw q (smaller_below (cost (Some l)) (least_over test cost ls)).0
  least_below (k ∷ ls) (suc n) l e j =
      let ih : less (cost (Some l)) (least_over test cost ls) ≡ false = least_below ls n l e j in ⊎_elim
      (λ (t : test k ≡ true). rw (least_take k ls t)
      (less_chain (smaller (cost k) (least_over test cost ls)) (least_over test cost ls) (cost (Some l))
      (smaller_below (cost k) (least_over test cost ls)).1 ih))
      (λ (f : test k ≡ false). rw (least_skip k ls f) ih) (cases_Bool (test k))

  -- a link that passes, and has the cost v
  pub record Met (ls : List (Option Link)) (v : Price) : Type 0 where
    pub number : ℕ
    pub passes : test (get_or ls number None) ≡ true
    pub gives : v ≡ cost (get_or ls number None)

  later : {k : Option Link} {ls : List (Option Link)} {v : Price} → Met ls v → Met (k ∷ ls) v
  later h = record { number = suc h.number; passes = h.passes; gives = h.gives }

  -- one link has it, where it is open
  pub least_met : (ls : List (Option Link)) → is_open (least_over test cost ls) ≡ true → Met ls (least_over test cost ls)
  least_met [] o = absurd (both_ways (is_open (least_over test cost [])) (ap is_open least_none) o)
  least_met (k ∷ ls) o = ⊎_elim
      (λ (t : test k ≡ true). ⊎_elim
      (λ (s : less (cost k) (least_over test cost ls) ≡ true).
      record { number = 0; passes = t; gives = least_take k ls t ∙ smaller_left (cost k) (least_over test cost ls) s })
      (λ (s : less (cost k) (least_over test cost ls) ≡ false).
      let q : least_over test cost (k ∷ ls) ≡ least_over test cost ls = least_take k ls t ∙ smaller_right (cost k) (least_over test cost ls) s in
      rw q (later (least_met ls (rw q at o)))) (cases_Bool (less (cost k) (least_over test cost ls))))
      (λ (f : test k ≡ false). rw (least_skip k ls f) (later (least_met ls (rw (least_skip k ls f) at o)))) (cases_Bool (test k))

  -- what holds of closed and of each cost holds of the least
  pub least_all : (P : Price → Type 0) → P closed → (ls : List (Option Link)) → ((n : ℕ) → P (cost (get_or ls n None))) → P (least_over test cost ls)
  least_all P c [] h = subst P (sym least_none) c
  least_all P c (l ∷ ls) h = ⊎_elim
      (λ (t : test l ≡ true). ⊎_elim
      (λ (s : less (cost l) (least_over test cost ls) ≡ true). subst P (sym (least_take l ls t ∙ smaller_left (cost l) (least_over test cost ls) s)) (h 0))
      (λ (s : less (cost l) (least_over test cost ls) ≡ false). subst P (sym (least_take l ls t ∙ smaller_right (cost l) (least_over test cost ls) s))
      (least_all P c ls (λ n. h (suc n))))
      (cases_Bool (less (cost l) (least_over test cost ls))))
      (λ (f : test l ≡ false). subst P (sym (least_skip l ls f)) (least_all P c ls (λ n. h (suc n)))) (cases_Bool (test l))

-- equal costs of the links that pass have an equal least
pub least_same : (test : Option Link → Bool) (cost other : Option Link → Price) (ls : List (Option Link)) →
    ((n : ℕ) → test (get_or ls n None) ≡ true → cost (get_or ls n None) ≡ other (get_or ls n None)) → least_over test cost ls ≡ least_over test other ls
least_same test cost other [] h = least_none test cost ∙ sym (least_none test other)
least_same test cost other (l ∷ ls) h =
    let r : least_over test cost ls ≡ least_over test other ls = least_same test cost other ls (λ n. h (suc n)) in ⊎_elim
    (λ (t : test l ≡ true). least_take test cost l ls t ∙ (λ i. smaller (h 0 t i) (r i)) ∙ sym (least_take test other l ls t))
    (λ (f : test l ≡ false). least_skip test cost l ls f ∙ r ∙ sym (least_skip test other l ls f)) (cases_Bool (test l))

-- a link that does not pass may become another that does not
pub least_set : (test : Option Link → Bool) (cost : Option Link → Price) (ls : List (Option Link)) (n : ℕ) (new : Option Link) →
    test (get_or ls n None) ≡ false → test new ≡ false → least_over test cost (set ls n new) ≡ least_over test cost ls
unfolding least_over
least_set test cost [] n new e d = refl
least_set test cost (l ∷ ls) zero new e d = least_skip test cost new ls d ∙ sym (least_skip test cost l ls e)
least_set test cost (l ∷ ls) (suc n) new e d = ap (λ z. cond (test l) (smaller (cost l) z) z) (least_set test cost ls n new e d)
