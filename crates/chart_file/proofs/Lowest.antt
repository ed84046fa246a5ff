-- The lowest index at which a test fails, of a list that is made from a function of the index.
use Rattle.std.proofs.Common.{◌≡◌, ℕ, zero, suc, ◌<◌, Bool, true, false, cond, List, [], ◌∷◌, map, length, get_or, Some, None, Option, sym, refl, ap, ◌∙◌, arith}
use Rattle.std.specs.List.{range_with_len}
use Rattle.std.specs.Option.{option_map}
use Rattle.std.proofs.lemmas.List.FromFn.{get_or-map-range_with_len, length-map-range_with_len}
use Rattle.std.proofs.lemmas.Bool.{cond-false, cond-true}
use Rattle.chart_file.specs.Checks.{lowest_failing}

module _ {A : Type 0} (test : A → Bool) (d : A) where
  found : (xs : List A) (n : ℕ) → n < length xs → ((k : ℕ) → k < n → test (get_or xs k d) ≡ true) → test (get_or xs n d) ≡ false → Some n ≡ lowest_failing test xs
  found [] n l h b = absurd (omega arith)
  found (x ∷ xs) zero l h b = sym (cond-false (test x) (option_map suc (lowest_failing test xs)) (Some 0) b)
  found (x ∷ xs) (suc n) l h b =
      ap (option_map suc) (found xs n (omega arith) (λ k lt. h (suc k) (omega arith)) b)
      ∙ sym (cond-true (test x) (option_map suc (lowest_failing test xs)) (Some 0) (h 0 (omega arith)))

  none : (xs : List A) → ((k : ℕ) → k < length xs → test (get_or xs k d) ≡ true) → None ≡ lowest_failing test xs
  none [] h = refl
  none (x ∷ xs) h =
      ap (option_map suc) (none xs (λ k lt. h (suc k) (omega arith)))
      ∙ sym (cond-true (test x) (option_map suc (lowest_failing test xs)) (Some 0) (h 0 (omega arith)))

  no_none : (o : Option ℕ) → option_map suc o ≡ None → o ≡ None
  no_none None e = refl
  no_none (Some n) e = cc

  holds : (xs : List A) → lowest_failing test xs ≡ None → (k : ℕ) → k < length xs → test (get_or xs k d) ≡ true
  holds [] e k l = absurd (omega arith)
  holds (x ∷ xs) e k l = go (test x) refl e (holds xs) k l
    where
      go : (b : Bool) → test x ≡ b → cond b (option_map suc (lowest_failing test xs)) (Some 0) ≡ None →
          (lowest_failing test xs ≡ None → (k : ℕ) → k < length xs → test (get_or xs k d) ≡ true) →
          (k : ℕ) → k < suc (length xs) → test (get_or (x ∷ xs) k d) ≡ true
      go true t e rest zero l = t
      go true t e rest (suc k) l = rest (no_none (lowest_failing test xs) e) k (omega arith)
      go false t e rest k l = cc

-- the same of the records f 0, f 1, .. below a count
module _ {A : Type 0} (test : A → Bool) (f : ℕ → A) (count : ℕ) where
  at : (k : ℕ) → k < count → get_or (map f (range_with_len 0 count)) k (f 0) ≡ f k
  at k l = get_or-map-range_with_len f 0 count k k (f 0) l (omega arith)

  inside : (k : ℕ) → k < length (map f (range_with_len 0 count)) → k < count
  inside k l = omega (arith, length-map-range_with_len f 0 count)

  pub fails_first : (n : ℕ) → n < count → ((k : ℕ) → k < n → test (f k) ≡ true) → test (f n) ≡ false → Some n ≡ lowest_failing test (map f (range_with_len 0 count))
  fails_first n l h b = found test (f 0) (map f (range_with_len 0 count)) n (omega (arith, length-map-range_with_len f 0 count))
      (λ k lt. ap test (at k (omega arith)) ∙ h k lt) (ap test (at n l) ∙ b)

  pub fails_nowhere : ((k : ℕ) → k < count → test (f k) ≡ true) → None ≡ lowest_failing test (map f (range_with_len 0 count))
  fails_nowhere h = none test (f 0) (map f (range_with_len 0 count)) (λ k lt. ap test (at k (inside k lt)) ∙ h k (inside k lt))

  pub holds_at : lowest_failing test (map f (range_with_len 0 count)) ≡ None → (k : ℕ) → k < count → test (f k) ≡ true
  holds_at e k l = sym (ap test (at k l)) ∙ holds test (f 0) (map f (range_with_len 0 count)) e k (omega (arith, length-map-range_with_len f 0 count))
