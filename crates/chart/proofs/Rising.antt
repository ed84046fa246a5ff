-- The next link number from one on, and the list of all that pass a test.
use Rattle.std.proofs.Common.{◌≡◌, ℕ, zero, suc, ◌+◌, ◌-◌, ◌<◌, ◌≤◌, Bool, true, false, cond, List, [], ◌∷◌, length, get_or, drop, Some, None, Option, sym, refl, ap, ◌∙◌, subst, ⊎_elim, add-one, arith}
use Rattle.std.specs.List.{slice_get}
use Rattle.std.proofs.lemmas.List.{drop_all, drop_more, get_or_past}
use Rattle.std.proofs.lemmas.Bool.{cases_eq, cases_lt, cond-false, cond-true}
use Rattle.chart.specs.Meaning.{Link}
use Rattle.chart.specs.Questions.{Next, numbers_from}

abbrev head_or_zero : List ℕ → ℕ
head_or_zero [] = 0
head_or_zero (n ∷ ns) = n

nil_cons : {n : ℕ} {ns : List ℕ} → [] ≡ n ∷ ns → ⊥
nil_cons e = absurd (omega (arith, ap length e))

module _ (test : Option Link → Bool) (ls : List (Option Link)) where
  -- the numbers that pass, from one on
  abbrev pub from_on : ℕ → List ℕ
  from_on k = numbers_from test k (drop k ls)

  from_on_past : (k : ℕ) → length ls ≤ k → from_on k ≡ []
  from_on_past k l = ap (numbers_from test k) (drop_all k ls l)

  from_on_here : (k : ℕ) → k < length ls → from_on k ≡ cond (test (get_or ls k None)) (k ∷ from_on (k + 1)) (from_on (k + 1))
  from_on_here k l =
      ap (numbers_from test k) (drop_more ls k None l)
      ∙ ap (λ (n : ℕ). cond (test (get_or ls k None)) (k ∷ numbers_from test n (drop (k + 1) ls)) (numbers_from test n (drop (k + 1) ls))) (sym (add-one k))

  from_on_not : (k : ℕ) → test (get_or ls k None) ≡ false → from_on k ≡ from_on (k + 1)
  from_on_not k e = ⊎_elim
      (λ (l : k < length ls). from_on_here k l ∙ cond-false (test (get_or ls k None)) (k ∷ from_on (k + 1)) (from_on (k + 1)) e)
      (λ (l : length ls ≤ k). from_on_past k l ∙ sym (from_on_past (k + 1) (omega arith))) (cases_lt k (length ls))

  skipped : (gap k : ℕ) → ((j : ℕ) → k ≤ j → j < k + gap → test (get_or ls j None) ≡ false) → from_on k ≡ from_on (k + gap)
  skipped zero k none = ap from_on (omega arith)
  skipped (suc gap) k none =
      from_on_not k (none k (omega arith) (omega arith))
      ∙ skipped gap (k + 1) (λ j a b. none j (omega arith) (omega arith)) ∙ ap from_on (omega arith)

  -- after the next number come those from the one past it on
  pub next_some : (k n : ℕ) → Next test ls k (Some n) → from_on k ≡ n ∷ from_on (n + 1)
  next_some k n next =
      let low : k ≤ n = next.0 in
      let sum : k + (n - k) ≡ n = omega arith in
      skipped (n - k) k (λ j a b. next.3 j a (omega arith))
      ∙ ap from_on sum ∙ from_on_here n next.1
      ∙ cond-true (test (get_or ls n None)) (n ∷ from_on (n + 1)) (from_on (n + 1)) next.2

  pub next_none : (k : ℕ) → Next test ls k None → from_on k ≡ []
  next_none k next = skipped (length ls) k (λ j a b. next j a) ∙ from_on_past (k + length ls) (omega arith)

  -- counting on from one number to the next: so many are left to count
  pub nth_first : (n k : ℕ) → Next test ls 0 (Some k) → slice_get (numbers_from test 0 ls) n ≡ slice_get (k ∷ from_on (k + 1)) (n - 0)
  nth_first n k next = (λ i. slice_get (next_some 0 k next i) (left i))
    where
      left : n ≡ n - 0
      left = omega arith

  pub nth_more : (n i k m : ℕ) → slice_get (numbers_from test 0 ls) n ≡ slice_get (k ∷ from_on (k + 1)) (n - i) → i < n → Next test ls (k + 1) (Some m) →
      slice_get (numbers_from test 0 ls) n ≡ slice_get (m ∷ from_on (m + 1)) (n - (i + 1))
  nth_more n i k m inv l next =
      let left : n - i ≡ suc (n - (i + 1)) = omega arith in
      inv ∙ ap (slice_get (k ∷ from_on (k + 1))) left ∙ ap (λ (xs : List ℕ). slice_get xs (n - (i + 1))) (next_some (k + 1) m next)

  pub nth_done : (n i k : ℕ) → slice_get (numbers_from test 0 ls) n ≡ slice_get (k ∷ from_on (k + 1)) (n - i) → n ≤ i → Some k ≡ slice_get (numbers_from test 0 ls) n
  nth_done n i k inv l =
      let left : n - i ≡ 0 = omega arith in
      sym (inv ∙ ap (slice_get (k ∷ from_on (k + 1))) left)

  -- there are no more
  pub nth_none : (n : ℕ) → Next test ls 0 None → None ≡ slice_get (numbers_from test 0 ls) n
  nth_none n next = sym (ap (λ (xs : List ℕ). slice_get xs n) (next_none 0 next))

  pub nth_last : (n i k : ℕ) → slice_get (numbers_from test 0 ls) n ≡ slice_get (k ∷ from_on (k + 1)) (n - i) → i < n → Next test ls (k + 1) None →
      None ≡ slice_get (numbers_from test 0 ls) n
  nth_last n i k inv l next =
      let left : n - i ≡ suc (n - (i + 1)) = omega arith in
      sym (inv ∙ ap (slice_get (k ∷ from_on (k + 1))) left ∙ ap (λ (xs : List ℕ). slice_get xs (n - (i + 1))) (next_none (k + 1) next))

  -- a number that passes stands first
  on_pass : (k : ℕ) → k < length ls → test (get_or ls k None) ≡ true → from_on k ≡ k ∷ from_on (k + 1)
  on_pass k p t = from_on_here k p ∙ cond-true (test (get_or ls k None)) (k ∷ from_on (k + 1)) (from_on (k + 1)) t

  abbrev First : ℕ → ℕ → List ℕ → Type 0
  First k n ns = Next test ls k (Some n) × (ns ≡ from_on (n + 1))

  passes : (k n : ℕ) (ns : List ℕ) → from_on k ≡ n ∷ ns → k < length ls → test (get_or ls k None) ≡ true → First k n ns
  passes k n ns e p t =
      let both : k ∷ from_on (k + 1) ≡ n ∷ ns = sym (on_pass k p t) ∙ e in
      let same : k ≡ n = ap head_or_zero both in (
        (omega arith, subst (λ (i : ℕ). i < length ls) same p, subst (λ (i : ℕ). test (get_or ls i None) ≡ true) same t, λ j a b. absurd (omega arith)),
        sym (ap (drop 1) both) ∙ ap (λ (i : ℕ). from_on (i + 1)) same,
      )

  passed : (k n : ℕ) (ns : List ℕ) → test (get_or ls k None) ≡ false → First (k + 1) n ns → First k n ns
  passed k n ns t later =
      let above : k + 1 ≤ n = later.0.0 in (
        (
          omega arith,
          later.0.1,
          later.0.2,
          λ j a b. ⊎_elim
              (λ (q : j ≡ k). ap (λ (i : ℕ). test (get_or ls i None)) q ∙ t)
              (λ (q : j ≡ k → ⊥). later.0.3 j (omega arith) b) (cases_eq j k),
        ),
        later.1,
      )

  by_test : {P : Type 0} (b : Bool) → (b ≡ true → P) → (b ≡ false → P) → P
  by_test true f g = f refl
  by_test false f g = g refl

  first_next : (gap k n : ℕ) (ns : List ℕ) → length ls ≤ k + gap → from_on k ≡ n ∷ ns → First k n ns
  first_next zero k n ns l e = absurd (nil_cons (sym (from_on_past k (omega arith)) ∙ e))
  first_next (suc gap) k n ns l e =
      let later : from_on (k + 1) ≡ n ∷ ns → First (k + 1) n ns = first_next gap (k + 1) n ns (omega arith) in
      ⊎_elim
      (λ (p : k < length ls). by_test (test (get_or ls k None)) (passes k n ns e p) (λ t. passed k n ns t (later (sym (from_on_not k t) ∙ e))))
      (λ (p : length ls ≤ k). absurd (nil_cons (sym (from_on_past k p) ∙ e))) (cases_lt k (length ls))

  -- and back: the first of those from one number on is the next one, and the others come after it
  pub next_of : (k n : ℕ) (ns : List ℕ) → from_on k ≡ n ∷ ns → Next test ls k (Some n) × (ns ≡ from_on (n + 1))
  next_of k n ns e = first_next (length ls) k n ns (omega arith) e

  none_on : (gap k j : ℕ) → j < k + gap → from_on k ≡ [] → k ≤ j → j < length ls → test (get_or ls j None) ≡ false
  none_on zero k j l e a p = absurd (omega arith)
  none_on (suc gap) k j l e a p =
      let later : from_on (k + 1) ≡ [] → k + 1 ≤ j → test (get_or ls j None) ≡ false = λ z b. none_on gap (k + 1) j (omega arith) z b p in
      by_test (test (get_or ls k None)) (λ t. absurd (nil_cons (sym e ∙ on_pass k (omega arith) t)))
      (λ t. ⊎_elim
      (λ (q : j ≡ k). ap (λ (i : ℕ). test (get_or ls i None)) q ∙ t)
      (λ (q : j ≡ k → ⊥). later (sym (from_on_not k t) ∙ e) (omega arith)) (cases_eq j k))

  -- where none is left, none comes next
  pub none_of : test None ≡ false → (k : ℕ) → from_on k ≡ [] → Next test ls k None
  none_of away k e j a = ⊎_elim
      (λ (p : j < length ls). none_on (suc j) k j (omega arith) e a p)
      (λ (p : length ls ≤ j). ap test (get_or_past ls j None p) ∙ away) (cases_lt j (length ls))
