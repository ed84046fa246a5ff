-- The lowest of some link numbers is the next one, where they are all that pass a test.
use Rattle.std.proofs.Common.{◌≡◌, ℕ, zero, suc, ◌+◌, ◌<◌, ◌≤◌, Bool, true, false, cond, leb, List, [], ◌∷◌, length, get_or, min, filter, Some, None, Option, sym, refl, subst, ⊎_elim, arith}
use Rattle.std.specs.List.{AllByRecursion, cons_option, filter_map, fold, range_with_len, reduce}
use Rattle.std.proofs.lemmas.Bool.{cases_eq, cases_lt, false_from_ne_true, leb-false, leb-true}
use Rattle.chart.specs.Meaning.{Link}
use Rattle.chart.specs.Questions.{Next}
use Rattle.lattice_meaning.specs.Numbers.{lowest_of}

-- the least of x and some more
least_low : (x : ℕ) (xs : List ℕ) → fold min x xs ≤ x
least_low x [] = omega arith
least_low x (y ∷ xs) = omega (arith, least_low (min x y) xs)

least_all : (x : ℕ) (xs : List ℕ) → AllByRecursion (λ y. fold min x xs ≤ y) xs
least_all x [] = tt
least_all x (y ∷ xs) = (omega (arith, least_low (min x y) xs), least_all (min x y) xs)

least_is : (P : ℕ → Type 0) (x : ℕ) (xs : List ℕ) → P x → AllByRecursion P xs → P (fold min x xs)
least_is P x [] p h = p
least_is P x (y ∷ xs) p h = least_is P (min x y) xs (⊎_elim
    (λ (l : x < y). let e : x ≡ min x y = omega arith in subst P e p)
    (λ (l : y ≤ x). let e : y ≡ min x y = omega arith in subst P e h.0) (cases_lt x y)) h.1

module _ (k : ℕ) (f : ℕ → Option ℕ) where
  -- those of n numbers, from that of a on, that are at least k
  abbrev some_of : ℕ → ℕ → List ℕ
  some_of a n = filter (leb k) (filter_map f (range_with_len a n))

  -- P holds of a number, if there is one and it is at least k
  abbrev At : (ℕ → Type 0) → Option ℕ → Type 0
  At P o = (j : ℕ) → o ≡ Some j → k ≤ j → P j

  one_more : (P : ℕ → Type 0) (o : Option ℕ) (xs : List ℕ) → At P o → AllByRecursion P (filter (leb k) xs) → AllByRecursion P (filter (leb k) (cons_option o xs))
  one_more P None xs e h = h
  one_more P (Some j) xs e h = go (leb k j) refl
    where
      go : (b : Bool) → leb k j ≡ b → AllByRecursion P (cond b (j ∷ filter (leb k) xs) (filter (leb k) xs))
      go true q = (e j refl (leb-true k j q), h)
      go false q = h

  one_fewer : (P : ℕ → Type 0) (o : Option ℕ) (xs : List ℕ) → AllByRecursion P (filter (leb k) (cons_option o xs)) → At P o × AllByRecursion P (filter (leb k) xs)
  one_fewer P None xs h = ((λ j e l. cc), h)
  one_fewer P (Some i) xs h = go (leb k i) refl h
    where
      go : (b : Bool) → leb k i ≡ b → AllByRecursion P (cond b (i ∷ filter (leb k) xs) (filter (leb k) xs)) → At P (Some i) × AllByRecursion P (filter (leb k) xs)
      go true q h = ((λ j e l. let same : i ≡ j = cc in subst P same h.0), h.1)
      go false q h = ((λ j e l. let same : i ≡ j = cc in absurd (omega (arith, leb-false k i q))), h)

  -- what holds of each of the n numbers holds of each of the list
  into_list : (P : ℕ → Type 0) (a n : ℕ) → ((i : ℕ) → a ≤ i → i < a + n → At P (f i)) → AllByRecursion P (some_of a n)
  into_list P a zero h = tt
  into_list P a (suc n) h =
      one_more P (f a) (filter_map f (range_with_len (a + 1) n)) (h a (omega arith) (omega arith))
      (into_list P (a + 1) n (λ i l m. h i (omega arith) (omega arith)))

  -- and the other way
  from_list : (P : ℕ → Type 0) (a n : ℕ) → AllByRecursion P (some_of a n) → (i : ℕ) → a ≤ i → i < a + n → At P (f i)
  from_list P a zero h i l m = absurd (omega arith)
  from_list P a (suc n) h i l m =
      let t = one_fewer P (f a) (filter_map f (range_with_len (a + 1) n)) h in
      ⊎_elim
      (λ (same : i ≡ a). subst (λ (z : ℕ). At P (f z)) (sym same) t.0)
      (λ (other : i ≡ a → ⊥). from_list P (a + 1) n t.1 i (omega arith) (omega arith)) (cases_eq i a)

-- each of the numbers is in the table and passes, and each that passes is one of them
pub record AllThatPass (test : Option Link → Bool) (ls : List (Option Link)) (f : ℕ → Option ℕ) (m : ℕ) : Type 0 where
  pub passes : (i n : ℕ) → i < m → f i ≡ Some n → (n < length ls) × (test (get_or ls n None) ≡ true)
  pub all : (j : ℕ) → test (get_or ls j None) ≡ true → (i : ℕ) × (i < m) × (f i ≡ Some j)

module _ (test : Option Link → Bool) (ls : List (Option Link)) (f : ℕ → Option ℕ) (m : ℕ) (A : AllThatPass test ls f m) (k : ℕ) where
  abbrev Passes : ℕ → Type 0
  Passes n = (k ≤ n) × (n < length ls) × (test (get_or ls n None) ≡ true)

  -- what holds of each number of a list holds of each number from k on that passes
  abbrev Covers : List ℕ → Type 1
  Covers xs = (P : ℕ → Type 0) → AllByRecursion P xs → (j : ℕ) → k ≤ j → test (get_or ls j None) ≡ true → P j

  least_next : (xs : List ℕ) → AllByRecursion Passes xs → Covers xs → Next test ls k (reduce min xs)
  least_next [] h each = λ j l. false_from_ne_true (test (get_or ls j None)) (each (λ y. ⊥) tt j l)
  least_next (x ∷ xs) h each =
      let p = least_is Passes x xs h.0 h.1 in
      let low : AllByRecursion (λ y. fold min x xs ≤ y) (x ∷ xs) = (least_low x xs, least_all x xs) in
      (p.0, p.1, p.2, λ j l less. false_from_ne_true (test (get_or ls j None)) (λ e. let q = each (λ y. fold min x xs ≤ y) low j l e in omega arith))

  pub next_lowest : Next test ls k (lowest_of k f m)
  unfolding lowest_of
  next_lowest = least_next (some_of k f 0 m)
      (into_list k f Passes 0 m (λ i l below n e high. let p = A.passes i n (omega arith) e in (high, p.0, p.1)))
      (λ P h j l e. let a = A.all j e in from_list k f P 0 m h a.0 (omega arith) (omega arith) j a.2 l)
