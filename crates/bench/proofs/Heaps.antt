-- What a step of a sift keeps of a heap, over any order.
use Rattle.std.proofs.Common.{◌≡◌, ℕ, zero, suc, ◌+◌, ◌-◌, ◌/◌, ◌<◌, ◌≤◌, Bool, true, false, refl, ap, ◌∙◌, ⊎_elim, arith}
use Rattle.std.proofs.lemmas.Bool.{cases_eq}
use Rattle.std.proofs.lemmas.List.Edits.{Swapped}
use Rattle.std.specs.Cmp.{IsStrictWeakOrder}
use Rattle.bench.specs.Heap.{Child, Gap, Le, Ordered, Over, Under}

module _ (lt : ℕ → ℕ → Bool) where
  by : (a b x y : ℕ) → a ≡ x → b ≡ y → Le lt x y → Le lt a b
  by a b x y p q h = (λ k. lt (q k) (p k)) ∙ h

  -- a gap whose element suits is none
  pub closes : (f : ℕ → ℕ) (j n : ℕ) → Gap lt f j n → Under lt f j → Over lt f (f j) j n → Ordered lt f n
  closes f j n gap under over = λ i k a l. ⊎_elim
      (λ e. by _ _ _ _ (ap f e) refl (over k (omega arith, omega arith) l))
      (λ u. ⊎_elim
      (λ e. by _ _ _ _ refl (ap f e) (under i (omega arith, omega arith)))
      (λ v. gap.apart i k a l u v) (cases_eq k j)) (cases_eq i j)

  module _ (o : IsStrictWeakOrder lt) (f g : ℕ → ℕ) (j c n : ℕ) (is : Child j c) (in' : c < n) (s : Swapped f g j c) where
    -- the gap goes down from j to its first child c
    pub down : Over lt f (f c) j n → Gap lt f j n → Gap lt g c n
    down best h = record {
      apart = λ i k a l u v. ⊎_elim
          (λ e. by _ _ _ _ (ap g e ∙ s.0) (s.2 k (omega arith) v) (best k (omega arith, omega arith) l))
          (λ w. ⊎_elim
          (λ e. by _ _ _ _ (s.2 i w u) (ap g e ∙ s.0) (h.across i c (omega arith, omega arith) is in'))
          (λ z. by _ _ _ _ (s.2 i w u) (s.2 k z v) (h.apart i k a l w z)) (cases_eq k j)) (cases_eq i j);
      across = λ i k a b l.
          let e : i ≡ j = omega arith in
          by _ _ _ _ (ap g e ∙ s.0) (s.2 k (omega arith) (omega arith)) (h.apart c k b l (omega arith) (omega arith));
    }

    -- the element that came down stands under the child that went up
    pub down_under : lt (f c) (f j) ≡ true → Under lt g c
    down_under t = λ i a.
        let e : i ≡ j = omega arith in
        by _ _ _ _ (ap g e ∙ s.0) s.1 (o.one_way _ _ t)

    -- the gap goes up from c to its parent j
    pub up : Gap lt f c n → Gap lt g j n
    up h = record {
      apart = λ i k a l u v. ⊎_elim
          (λ e. by _ _ _ _ (ap g e ∙ s.1) (s.2 k v (omega arith)) (h.across j k is (omega arith, omega arith) l))
          (λ w. let z : k ≡ c → ⊥ = omega arith in by _ _ _ _ (s.2 i u w) (s.2 k v z) (h.apart i k a l w z)) (cases_eq i c);
      across = λ i k a b l.
          let over = h.apart i j a (omega arith) (omega arith) (omega arith) in
          let same = s.2 i (omega arith) (omega arith) in
          ⊎_elim
          (λ e. by _ _ _ _ same (ap g e ∙ s.1) over)
          (λ w. by _ _ _ _ same (s.2 k (omega arith) w) (o.chain _ _ _ (h.apart j k b l (omega arith) w) over)) (cases_eq k c);
    }

  never : IsStrictWeakOrder lt → (x : ℕ) (b : Bool) → lt x x ≡ b → Le lt x x
  never o x true e = o.one_way x x e
  never o x false e = e

  pub same_slot : IsStrictWeakOrder lt → (f : ℕ → ℕ) (j k : ℕ) → k ≡ j → Le lt (f j) (f k)
  same_slot o f j k e = by _ _ _ _ refl (ap f e) (never o (f j) _ refl)

  -- nothing comes before what stands in the first slot
  pub top : IsStrictWeakOrder lt → (f : ℕ → ℕ) (n : ℕ) → Ordered lt f n → (bound k : ℕ) → k ≤ bound → k < n → Le lt (f 0) (f k)
  top o f n h zero k a b = same_slot o f 0 k (omega arith)
  top o f n h (suc bound) k a b = ⊎_elim (same_slot o f 0 k)
      (λ u. o.chain _ _ _ (h ((k - 1) / 2) k (omega arith, omega arith) b) (top o f n h bound ((k - 1) / 2) (omega arith) (omega arith))) (cases_eq k 0)

  -- the last slot, exchanged into slot j and left out, leaves a gap there
  pub leaves : IsStrictWeakOrder lt → (f g : ℕ → ℕ) (j n : ℕ) → j < n → Swapped f g j n → Ordered lt f (n + 1) → Gap lt g j n
  leaves o f g j n l s h = record {
    apart = λ i k a m u v. by _ _ _ _ (s.2 i u (omega arith)) (s.2 k v (omega arith)) (h i k a (omega arith));
    across = λ i k a b m. by _ _ _ _ (s.2 i (omega arith) (omega arith)) (s.2 k (omega arith) (omega arith))
        (o.chain _ _ _ (h j k b (omega arith)) (h i j a (omega arith)));
  }
