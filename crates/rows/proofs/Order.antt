-- Prices are totally ordered.
use Rattle.std.proofs.Common.{◌≡◌, ℕ, ◌<◌, Bool, true, false, cond, eqb, ltb, ◌⊎◌, List, [], ◌∷◌, sym, refl, ap, ◌∙◌, inl, inr, ⊎_elim, arith}
use Rattle.std.proofs.lemmas.Bool.{both_ways, cases_Bool, cases_order, cond-false, cond-true, eq-eqb, le-ltb, ltb-false, ltb-true, ne_eqb}
use Rattle.rows.specs.Rows.{Price, closed, less, open_at, row_less}
use Rattle.rows.specs.Laws.{TotalOrder}

-- one number of a row, before the rest b
abbrev digit : ℕ → ℕ → Bool → Bool
digit y x b = cond (eqb y x) b (ltb y x)

-- what a comparison that failed says
digit_false : (y x : ℕ) (b : Bool) → digit y x b ≡ false → (x < y) ⊎ ((y ≡ x) × (b ≡ false))
digit_false y x b h = ⊎_elim
    (λ e. inr (e, sym (cond-true (eqb y x) b (ltb y x) (eq-eqb y x e)) ∙ h))
    (λ ne. inl (let n : y ≡ x → ⊥ = ⊎_elim (λ l. omega arith) (λ l. omega arith) ne in
    let q = ltb-false y x (sym (cond-false (eqb y x) b (ltb y x) (ne_eqb y x n)) ∙ h) in omega arith)) (cases_order y x)

greater : (y x : ℕ) (b : Bool) → x < y → digit y x b ≡ false
greater y x b l = cond-false (eqb y x) b (ltb y x) (ne_eqb y x (λ e. omega arith)) ∙ le-ltb y x (omega arith)

equal : (y x : ℕ) (b : Bool) → y ≡ x → b ≡ false → digit y x b ≡ false
equal y x b e h = cond-true (eqb y x) b (ltb y x) (eq-eqb y x e) ∙ h

row_chain : (xs ys zs : List ℕ) → row_less ys xs ≡ false → row_less zs ys ≡ false → row_less zs xs ≡ false
row_chain [] ys [] p q = refl
row_chain [] [] (z ∷ zs) p q = q
row_chain [] (y ∷ ys) (z ∷ zs) p q = refl
row_chain (x ∷ xs) [] [] p q = p
row_chain (x ∷ xs) (y ∷ ys) [] p q = absurd (both_ways true q refl)
row_chain (x ∷ xs) [] (z ∷ zs) p q = absurd (both_ways true p refl)
row_chain (x ∷ xs) (y ∷ ys) (z ∷ zs) p q = ⊎_elim
    (λ a. ⊎_elim (λ b. greater z x _ (omega arith)) (λ b. greater z x _ (omega (arith, b.0))) (digit_false z y _ q))
    (λ a. ⊎_elim (λ b. greater z x _ (omega (arith, a.0))) (λ b. equal z x _ (b.0 ∙ a.0) (row_chain xs ys zs a.1 b.1)) (digit_false z y _ q)) (digit_false y x _ p)

row_one_way : (xs ys : List ℕ) → row_less xs ys ≡ true → row_less ys xs ≡ false
row_one_way [] [] h = refl
row_one_way [] (y ∷ ys) h = refl
row_one_way (x ∷ xs) [] h = absurd (both_ways false refl h)
row_one_way (x ∷ xs) (y ∷ ys) h = ⊎_elim
    (λ e. equal y x _ (sym e) (row_one_way xs ys (sym (cond-true (eqb x y) (row_less xs ys) (ltb x y) (eq-eqb x y e)) ∙ h)))
    (λ ne. greater y x _ (let n : x ≡ y → ⊥ = ⊎_elim (λ l. omega arith) (λ l. omega arith) ne in
    ltb-true x y (sym (cond-false (eqb x y) (row_less xs ys) (ltb x y) (ne_eqb x y n)) ∙ h))) (cases_order x y)

row_total : (xs ys : List ℕ) → row_less xs ys ≡ false → row_less ys xs ≡ false → xs ≡ ys
row_total [] [] p q = refl
row_total [] (y ∷ ys) p q = absurd (both_ways true p refl)
row_total (x ∷ xs) [] p q = absurd (both_ways true q refl)
row_total (x ∷ xs) (y ∷ ys) p q = ⊎_elim
    (λ a. ⊎_elim (λ b. absurd (omega arith)) (λ b. absurd (omega (arith, b.0))) (digit_false y x _ q))
    (λ a. ⊎_elim (λ b. absurd (omega (arith, a.0))) (λ b. (λ i. a.0 i ∷ row_total xs ys a.1 b.1 i)) (digit_false y x _ q)) (digit_false x y _ p)

-- not below, and not below in turn: not below
pub less_chain : (a b c : Price) → less b a ≡ false → less c b ≡ false → less c a ≡ false
less_chain a b closed p q = refl
less_chain closed closed (open_at zs) p q = q
less_chain closed (open_at ys) (open_at zs) p q = absurd (both_ways true p refl)
less_chain (open_at xs) closed (open_at zs) p q = absurd (both_ways true q refl)
less_chain (open_at xs) (open_at ys) (open_at zs) p q = row_chain xs ys zs p q

pub less_one_way : (a b : Price) → less a b ≡ true → less b a ≡ false
less_one_way closed closed h = refl
less_one_way closed (open_at ys) h = absurd (both_ways false refl h)
less_one_way (open_at xs) closed h = refl
less_one_way (open_at xs) (open_at ys) h = row_one_way xs ys h

pub less_total : (a b : Price) → less a b ≡ false → less b a ≡ false → a ≡ b
less_total closed closed p q = refl
less_total closed (open_at ys) p q = absurd (both_ways true q refl)
less_total (open_at xs) closed p q = absurd (both_ways true p refl)
less_total (open_at xs) (open_at ys) p q = ap open_at (row_total xs ys p q)

pub less_self : (a : Price) → less a a ≡ false
less_self a = ⊎_elim (λ t. less_one_way a a t) (λ f. f) (cases_Bool (less a a))

pub less_transitive : (a b c : Price) → less a b ≡ true → less b c ≡ true → less a c ≡ true
less_transitive a b c p q = ⊎_elim (λ t. t)
    (λ (f : less a c ≡ false). absurd (both_ways (less a b) (less_chain b c a (less_one_way b c q) f) p)) (cases_Bool (less a c))

pub total_order : TotalOrder
total_order = record { irreflexive = less_self; one_way = less_one_way; transitive = less_transitive; total = less_total }
