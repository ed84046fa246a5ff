-- Slots F and indexes I as functions of numbers: what an exchange and one more place do to them.
use Rattle.std.proofs.Common.{◌≡◌, ℕ, ◌+◌, ◌<◌, sym, ap, ◌∙◌, subst, ⊎_elim, arith}
use Rattle.std.proofs.lemmas.Bool.{cases_eq}
use Rattle.std.proofs.lemmas.List.Edits.{Swapped}

-- place p is in one of the first n slots, the one that its index names
abbrev pub In : (ℕ → ℕ) → (ℕ → ℕ) → ℕ → ℕ → Type 0
In F I n p = (I p < n) × (F (I p) ≡ p)

module _ (F G I J : ℕ → ℕ) (a b n : ℕ) (la : a < n) (lb : b < n) (s : Swapped F G a b) (ja : J (F a) ≡ b) (jb : J (F b) ≡ a) (jo : (m : ℕ) → (m ≡ F a → ⊥) → (m ≡ F b → ⊥) → J m ≡ I m) (back : (k : ℕ) → k < n → I (F k) ≡ k) where
  apart : (k m : ℕ) → k < n → m < n → (k ≡ m → ⊥) → F k ≡ F m → ⊥
  apart k m l r u e = u (sym (back k l) ∙ ap I e ∙ back m r)

  pub swap_back : (k : ℕ) → k < n → J (G k) ≡ k
  swap_back k l = ⊎_elim
      (λ e. ap J (ap G e ∙ s.0) ∙ jb ∙ sym e)
      (λ u. ⊎_elim
      (λ e. ap J (ap G e ∙ s.1) ∙ ja ∙ sym e)
      (λ v. ap J (s.2 k u v) ∙ jo (F k) (apart k a l la u) (apart k b l lb v) ∙ back k l) (cases_eq k b)) (cases_eq k a)

  pub swap_below : (m : ℕ) → ((k : ℕ) → k < n → F k < m) → (k : ℕ) → k < n → G k < m
  swap_below m h k l = ⊎_elim
      (λ e. subst (λ x. x < m) (sym (ap G e ∙ s.0)) (h b lb))
      (λ u. ⊎_elim
      (λ e. subst (λ x. x < m) (sym (ap G e ∙ s.1)) (h a la))
      (λ v. subst (λ x. x < m) (sym (s.2 k u v)) (h k l)) (cases_eq k b)) (cases_eq k a)

  pub swap_into : (p : ℕ) → In F I n p → In G J n p
  swap_into p h = ⊎_elim
      (λ e. let j : J p ≡ b = ap J e ∙ ja in (omega arith, ap G j ∙ s.1 ∙ sym e))
      (λ u. ⊎_elim
      (λ e. let j : J p ≡ a = ap J e ∙ jb in (omega arith, ap G j ∙ s.0 ∙ sym e))
      (λ v. let j : J p ≡ I p = jo p u v in
      (omega (arith, h.0), ap G j ∙ s.2 (I p) (λ e. u (sym h.1 ∙ ap F e)) (λ e. v (sym h.1 ∙ ap F e)) ∙ h.1)) (cases_eq p (F b))) (cases_eq p (F a))

  pub swap_out : (p : ℕ) → In G J n p → In F I n p
  swap_out p h = ⊎_elim
      (λ e. let i : I p ≡ a = ap I e ∙ back a la in (omega arith, ap F i ∙ sym e))
      (λ u. ⊎_elim
      (λ e. let i : I p ≡ b = ap I e ∙ back b lb in (omega arith, ap F i ∙ sym e))
      (λ v. let j : J p ≡ I p = jo p u v in
      let g : G (I p) ≡ p = ap G (sym j) ∙ h.1 in
      (omega (arith, h.0), sym (s.2 (I p) (λ e. v (sym g ∙ ap G e ∙ s.0)) (λ e. u (sym g ∙ ap G e ∙ s.1))) ∙ g)) (cases_eq p (F b))) (cases_eq p (F a))

module _ (F G I J : ℕ → ℕ) (n p : ℕ) (gp : G n ≡ p) (go : (k : ℕ) → (k ≡ n → ⊥) → G k ≡ F k) (jp : J p ≡ n) (jo : (m : ℕ) → (m ≡ p → ⊥) → J m ≡ I m) (back : (k : ℕ) → k < n → I (F k) ≡ k) (new : In F I n p → ⊥) where
  pub add_back : (k : ℕ) → k < n + 1 → J (G k) ≡ k
  add_back k l = ⊎_elim
      (λ e. ap J (ap G e ∙ gp) ∙ jp ∙ sym e)
      (λ u. let r : k < n = omega arith in
      ap J (go k u) ∙ jo (F k) (λ e. let i : I p ≡ k = ap I (sym e) ∙ back k r in new (omega arith, ap F i ∙ e)) ∙ back k r) (cases_eq k n)

  pub add_below : (m : ℕ) → p < m → ((k : ℕ) → k < n → F k < m) → (k : ℕ) → k < n + 1 → G k < m
  add_below m q h k l = ⊎_elim
      (λ e. subst (λ x. x < m) (sym (ap G e ∙ gp)) q)
      (λ u. subst (λ x. x < m) (sym (go k u)) (h k (omega arith))) (cases_eq k n)

  pub add_new : In G J (n + 1) p
  add_new = (omega arith, ap G jp ∙ gp)

  pub add_into : (q : ℕ) → In F I n q → In G J (n + 1) q
  add_into q h = let j : J q ≡ I q = jo q (λ e. new (subst (In F I n) e h)) in
      let l = h.0 in
      (omega arith, ap G j ∙ go (I q) (omega arith) ∙ h.1)

  pub add_out : (q : ℕ) → In G J (n + 1) q → (q ≡ p → ⊥) → In F I n q
  add_out q h u =
      let j : J q ≡ I q = jo q u in
      let g : G (I q) ≡ q = ap G (sym j) ∙ h.1 in
      let v : I q ≡ n → ⊥ = λ e. u (sym g ∙ ap G e ∙ gp) in
      let l = h.0 in
      (omega arith, sym (go (I q) v) ∙ g)
