-- What comparing values says of the prices that they stand for.
use Rattle.std.proofs.Common.{Ordering, Less, Equal, Greater, ◌≡◌, Bool, true, false, not, cond, ◌||◌, sym, refl, ap, ◌∙◌}
use Rattle.std.specs.Cmp.{IsTotalOrder}
use Rattle.std.specs.Ordering.{is_eq, is_lt, ord_min, ordering_reverse}
use Rattle.rows.specs.Rows.{Price, less, smaller}
use Rattle.rows.proofs.Smaller.{smaller_swap}

module _ {X : Type 0} (value : X → Price) (cmp : X → X → Ordering) (ordered : (x y : X) → is_lt (cmp x y) ≡ less (value x) (value y)) where
  -- the smaller of two values stands for the smaller price
  pub min_value : (a b : X) → value (ord_min cmp a b) ≡ smaller (value a) (value b)
  min_value a b = picked (is_lt (cmp b a)) ∙ ap (λ (t : Bool). cond t (value b) (value a)) (ordered b a) ∙ smaller_swap (value b) (value a)
    where
      picked : (t : Bool) → value (cond t b a) ≡ cond t (value b) (value a)
      picked true = refl
      picked false = refl

  neither : (o : Ordering) → is_eq o ≡ not (is_lt o || is_lt (ordering_reverse o))
  neither Less = refl
  neither Equal = refl
  neither Greater = refl

  -- values are equal where neither price is below the other
  pub eq_value : IsTotalOrder cmp → (a b : X) → is_eq (cmp a b) ≡ not (less (value a) (value b) || less (value b) (value a))
  eq_value total a b =
      neither (cmp a b)
      ∙ ap (λ (o : Ordering). not (is_lt (cmp a b) || is_lt o)) (sym (total.antisymm b a))
      ∙ (λ i. not (ordered a b i || ordered b a i))

  twice : (b : Bool) → not (not b) ≡ b
  twice true = refl
  twice false = refl

  -- and differ where one price is below the other
  pub ne_value : (eq : X → X → Bool) → ((x y : X) → eq x y ≡ is_eq (cmp x y)) → IsTotalOrder cmp → (a b : X) → not (eq a b) ≡ (less (value a) (value b) || less (value b) (value a))
  ne_value eq same total a b = ap not (same a b ∙ eq_value total a b) ∙ twice (less (value a) (value b) || less (value b) (value a))
