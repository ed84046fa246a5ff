-- The nearest move as a loop over the links into a place finds it.
use Rattle.std.proofs.Common.{◌≡◌, ℕ, zero, suc, ◌+◌, ◌<◌, ◌≤◌, true, false, List, [], ◌∷◌, length, get_or, drop, Some, None, Option, sym, refl, ap, ◌∙◌, ⊎_elim, add-one, arith}
use Rattle.std.proofs.lemmas.Bool.{both_ways, cases_Bool, cond-false, cond-true}
use Rattle.rows.specs.Rows.{Kind, Price}
use Rattle.chart.specs.Meaning.{Link}
use Rattle.chart.specs.Questions.{Next, leads_into}
use Rattle.lifelong.specs.Trace.{Move, best_move, move_over, nearer, nearest}
use Rattle.lifelong.proofs.Moves.{move_skip, move_take, nearer_chain, nearer_one_way}

-- of three moves the nearest, whichever two are compared first

second : (a b : Move) → nearer b a ≡ true → nearest (Some a) (Some b) ≡ Some b
second a b e = cond-true (nearer b a) (Some b) (Some a) e

first : (a b : Move) → nearer b a ≡ false → nearest (Some a) (Some b) ≡ Some a
first a b e = cond-false (nearer b a) (Some b) (Some a) e

third : (a b c : Move) → nearer b a ≡ true → nearer c b ≡ true → nearer c a ≡ true
third a b c ab bc = ⊎_elim (λ (t : nearer c a ≡ true). t)
    (λ (f : nearer c a ≡ false). absurd (both_ways (nearer b a) (nearer_chain a c b f (nearer_one_way c b bc)) ab)) (cases_Bool (nearer c a))

nearest_three : (a b c : Move) → nearest (nearest (Some a) (Some b)) (Some c) ≡ nearest (Some a) (nearest (Some b) (Some c))
nearest_three a b c = ⊎_elim
    (λ (ab : nearer b a ≡ true). ap (λ z. nearest z (Some c)) (second a b ab) ∙ ⊎_elim
    (λ (bc : nearer c b ≡ true). second b c bc ∙ sym (ap (nearest (Some a)) (second b c bc) ∙ second a c (third a b c ab bc)))
    (λ (bc : nearer c b ≡ false). first b c bc ∙ sym (ap (nearest (Some a)) (first b c bc) ∙ second a b ab)) (cases_Bool (nearer c b)))
    (λ (ab : nearer b a ≡ false). ap (λ z. nearest z (Some c)) (first a b ab) ∙ ⊎_elim
    (λ (bc : nearer c b ≡ true). sym (ap (nearest (Some a)) (second b c bc)))
    (λ (bc : nearer c b ≡ false). first a c (nearer_chain a b c ab bc) ∙ sym (ap (nearest (Some a)) (first b c bc) ∙ first a b ab)) (cases_Bool (nearer c b)))
    (cases_Bool (nearer b a))

nearest_none : (a : Option Move) → nearest a None ≡ a
nearest_none None = refl
nearest_none (Some a) = refl

nearest_assoc : (a b c : Option Move) → nearest (nearest a b) c ≡ nearest a (nearest b c)
nearest_assoc None b c = refl
nearest_assoc (Some a) None c = refl
nearest_assoc (Some a) (Some b) None = nearest_none (nearest (Some a) (Some b))
nearest_assoc (Some a) (Some b) (Some c) = nearest_three a b c

module _ (k : Kind) (gs : List Price) (x : ℕ) where
  no_links : (i : ℕ) → best_move k gs x i [] ≡ None
  unfolding best_move
  no_links i = refl

  none_left : (ls : List (Option Link)) (from i : ℕ) → ((j : ℕ) → from ≤ j → leads_into x (get_or ls j None) ≡ false) → best_move k gs x i (drop from ls) ≡ None
  none_left [] zero i h = no_links i
  none_left [] (suc from) i h = no_links i
  none_left (l ∷ ls) zero i h = move_skip k gs x i l ls (h 0 (omega arith)) ∙ none_left ls zero (suc i) (λ j a. h (suc j) (omega arith))
  none_left (l ∷ ls) (suc from) i h = none_left ls from i (λ j a. h (suc j) (omega arith))

  -- the first of the links left has number i, and so the one at n has number w
  one_more : (ls : List (Option Link)) (from n i w : ℕ) → w + from ≡ i + n → from ≤ n → n < length ls → leads_into x (get_or ls n None) ≡ true →
      ((j : ℕ) → from ≤ j → j < n → leads_into x (get_or ls j None) ≡ false) →
      best_move k gs x i (drop from ls) ≡ nearest (move_over k gs w (get_or ls n None)) (best_move k gs x (suc w) (drop (suc n) ls))
  one_more [] from n i w e a b t h = absurd (omega arith)
  one_more (l ∷ ls) zero zero i w e a b t h =
      let same : i ≡ w = omega arith in
      move_take k gs x i l ls t ∙ ap (λ z. nearest (move_over k gs z l) (best_move k gs x (suc z) ls)) same
  one_more (l ∷ ls) zero (suc n) i w e a b t h = move_skip k gs x i l ls (h 0 (omega arith) (omega arith))
      ∙ one_more ls zero n (suc i) w (omega arith) (omega arith) (omega arith) t (λ j c d. h (suc j) (omega arith) (omega arith))
  one_more (l ∷ ls) (suc from) zero i w e a b t h = absurd (omega arith)
  one_more (l ∷ ls) (suc from) (suc n) i w e a b t h =
      one_more ls from n i w (omega arith) (omega arith) (omega arith) t (λ j c d. h (suc j) (omega arith) (omega arith))

  -- a turn of the loop
  pub move_more : (ls : List (Option Link)) (from n : ℕ) (best new all : Option Move) → Next (leads_into x) ls from (Some n) →
      new ≡ nearest best (move_over k gs n (get_or ls n None)) → nearest best (best_move k gs x from (drop from ls)) ≡ all →
      nearest new (best_move k gs x (n + 1) (drop (n + 1) ls)) ≡ all
  move_more ls from n best new all h e inv =
      let a = move_over k gs n (get_or ls n None) in
      let rest = best_move k gs x (suc n) (drop (suc n) ls) in
      ap (λ i. nearest new (best_move k gs x i (drop i ls))) (add-one n)
      ∙ ap (λ z. nearest z rest) e
      ∙ nearest_assoc best a rest
      ∙ ap (nearest best) (sym (one_more ls from n from n (omega arith) h.0 h.1 h.2 h.3))
      ∙ inv

  -- its end
  pub move_end : (ls : List (Option Link)) (from : ℕ) (best all : Option Move) → Next (leads_into x) ls from None →
      nearest best (best_move k gs x from (drop from ls)) ≡ all → best ≡ all
  move_end ls from best all h inv = sym (ap (nearest best) (none_left ls from from h) ∙ nearest_none best) ∙ inv
