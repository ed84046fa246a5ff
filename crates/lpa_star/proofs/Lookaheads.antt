-- The lookahead as a loop over the links into a place finds it.
use Rattle.std.proofs.Common.{◌≡◌, ℕ, zero, suc, ◌+◌, ◌<◌, ◌≤◌, Bool, true, false, List, [], ◌∷◌, length, get_or, drop, Some, None, Option, sym, ap, ◌∙◌, add-one, arith}
use Rattle.rows.specs.Rows.{Price, closed, smaller}
use Rattle.rows.proofs.Smaller.{smaller_assoc, smaller_swap}
use Rattle.chart.specs.Meaning.{Link}
use Rattle.chart.specs.Questions.{Next}
use Rattle.chart.specs.Routes.{least_over}
use Rattle.chart.proofs.Least.{least_none, least_skip, least_take}

module _ (test : Option Link → Bool) (cost : Option Link → Price) where
  none_left : (ls : List (Option Link)) (from : ℕ) → ((j : ℕ) → from ≤ j → test (get_or ls j None) ≡ false) → least_over test cost (drop from ls) ≡ closed
  none_left [] zero h = least_none test cost
  none_left [] (suc from) h = least_none test cost
  none_left (l ∷ ls) zero h = least_skip test cost l ls (h 0 (omega arith)) ∙ none_left ls zero (λ j a. h (suc j) (omega arith))
  none_left (l ∷ ls) (suc from) h = none_left ls from (λ j a. h (suc j) (omega arith))

  one_more : (ls : List (Option Link)) (from n : ℕ) → from ≤ n → n < length ls → test (get_or ls n None) ≡ true →
      ((j : ℕ) → from ≤ j → j < n → test (get_or ls j None) ≡ false) →
      least_over test cost (drop from ls) ≡ smaller (cost (get_or ls n None)) (least_over test cost (drop (suc n) ls))
  one_more [] from n a b t h = absurd (omega arith)
  one_more (l ∷ ls) zero zero a b t h = least_take test cost l ls t
  one_more (l ∷ ls) zero (suc n) a b t h = least_skip test cost l ls (h 0 (omega arith) (omega arith))
      ∙ one_more ls zero n (omega arith) (omega arith) t (λ j c d. h (suc j) (omega arith) (omega arith))
  one_more (l ∷ ls) (suc from) zero a b t h = absurd (omega arith)
  one_more (l ∷ ls) (suc from) (suc n) a b t h =
      one_more ls from n (omega arith) (omega arith) t (λ j c d. h (suc j) (omega arith) (omega arith))

  -- a turn of the loop
  pub look_more : (ls : List (Option Link)) (from n : ℕ) (best new all : Price) → Next test ls from (Some n) → new ≡ smaller best (cost (get_or ls n None)) →
      smaller best (least_over test cost (drop from ls)) ≡ all → smaller new (least_over test cost (drop (n + 1) ls)) ≡ all
  look_more ls from n best new all h e inv =
      let t = cost (get_or ls n None) in
      let rest = least_over test cost (drop (suc n) ls) in
      ap (λ i. smaller new (least_over test cost (drop i ls))) (add-one n)
      ∙ ap (λ x. smaller x rest) e
      ∙ smaller_assoc best t rest
      ∙ ap (smaller best) (sym (one_more ls from n h.0 h.1 h.2 h.3))
      ∙ inv

  -- its end
  pub look_end : (ls : List (Option Link)) (from : ℕ) (best all : Price) → Next test ls from None →
      smaller best (least_over test cost (drop from ls)) ≡ all → best ≡ all
  look_end ls from best all h inv = sym (ap (smaller best) (none_left ls from h) ∙ smaller_swap best closed) ∙ inv
