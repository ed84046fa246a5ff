-- Distinct numbers below n are at most n, and so are things that have such numbers.
use Rattle.std.proofs.Common.{◌≡◌, ℕ, zero, suc, ◌<◌, ◌≤◌, true, false, cond, eqb, List, [], ◌∷◌, map, length, sym, refl, ap, ◌∙◌, subst, inl, inr, ⊎_elim, arith}
use Rattle.std.proofs.lemmas.List.{length-map}
use Rattle.std.proofs.lemmas.Bool.{cases_Bool, cond-false, cond-true, eqb-false, eqb-true}
use Rattle.chart.specs.Routes.{Among, Distinct}

abbrev without : ℕ → List ℕ → List ℕ
without n [] = []
without n (x ∷ xs) = cond (eqb x n) (without n xs) (x ∷ without n xs)

hit : (n x : ℕ) (xs : List ℕ) → eqb x n ≡ true → without n (x ∷ xs) ≡ without n xs
hit n x xs e = cond-true (eqb x n) (without n xs) (x ∷ without n xs) e

miss : (n x : ℕ) (xs : List ℕ) → eqb x n ≡ false → without n (x ∷ xs) ≡ x ∷ without n xs
miss n x xs e = cond-false (eqb x n) (without n xs) (x ∷ without n xs) e

-- what is left stood there before, and is not n
left : (n : ℕ) (xs : List ℕ) (y : ℕ) → Among y (without n xs) → Among y xs × (y ≡ n → ⊥)
left n [] y i = absurd i
left n (x ∷ xs) y i = ⊎_elim
    (λ (e : eqb x n ≡ true). let t = left n xs y (rw (hit n x xs e) at i) in (inr t.0, t.1))
    (λ (e : eqb x n ≡ false). ⊎_elim
    (λ (q : y ≡ x). (inl q, λ z. eqb-false x n e (sym q ∙ z)))
    (λ (j : Among y (without n xs)). let t = left n xs y j in (inr t.0, t.1)) (rw (miss n x xs e) at i))
    (cases_Bool (eqb x n))

untouched : (n : ℕ) (xs : List ℕ) → (Among n xs → ⊥) → without n xs ≡ xs
untouched n [] h = refl
untouched n (x ∷ xs) h = ⊎_elim
    (λ (e : eqb x n ≡ true). absurd (h (inl (sym (eqb-true x n e)))))
    (λ (e : eqb x n ≡ false). miss n x xs e ∙ ap (λ ys. x ∷ ys) (untouched n xs (λ i. h (inr i)))) (cases_Bool (eqb x n))

one_fewer : (n : ℕ) (xs : List ℕ) → Distinct xs → length xs ≤ suc (length (without n xs))
one_fewer n [] d = omega arith
one_fewer n (x ∷ xs) d = ⊎_elim
    (λ (e : eqb x n ≡ true). let q = ap length (hit n x xs e ∙ untouched n xs (λ i. d.0 (rw (← eqb-true x n e) at i))) in omega arith)
    (λ (e : eqb x n ≡ false). let q = ap length (miss n x xs e) in let ih = one_fewer n xs d.1 in omega arith) (cases_Bool (eqb x n))

still_distinct : (n : ℕ) (xs : List ℕ) → Distinct xs → Distinct (without n xs)
still_distinct n [] d = tt
still_distinct n (x ∷ xs) d = ⊎_elim
    (λ (e : eqb x n ≡ true). rw (hit n x xs e) (still_distinct n xs d.1))
    (λ (e : eqb x n ≡ false). rw (miss n x xs e) ((λ i. d.0 (left n xs x i).0), still_distinct n xs d.1)) (cases_Bool (eqb x n))

pub pigeonhole : (n : ℕ) (xs : List ℕ) → Distinct xs → ((y : ℕ) → Among y xs → y < n) → length xs ≤ n
pigeonhole zero [] d b = omega arith
pigeonhole zero (x ∷ xs) d b = absurd (omega (arith, b x (inl refl)))
pigeonhole (suc n) xs d b =
    let ih : length (without n xs) ≤ n = pigeonhole n (without n xs) (still_distinct n xs d)
    (λ y i. let t = left n xs y i in let q = b y t.0 in let r = t.1 in omega arith) in
    omega (arith, one_fewer n xs d)

pub among_map : {A B : Type 0} (f : A → B) (xs : List A) (y : B) → Among y (map f xs) → (x : A) × (Among x xs × (y ≡ f x))
among_map f [] y i = absurd i
among_map f (x ∷ xs) y (inl e) = (x, (inl refl, e))
among_map f (x ∷ xs) y (inr i) = let t = among_map f xs y i in (t.0, (inr t.1.0, t.1.1))

pub map_among : {A B : Type 0} (f : A → B) (xs : List A) (x : A) → Among x xs → Among (f x) (map f xs)
map_among f [] x i = absurd i
map_among f (y ∷ xs) x (inl e) = inl (ap f e)
map_among f (y ∷ xs) x (inr i) = inr (map_among f xs x i)

distinct_map : {A : Type 0} (f : A → ℕ) → ((x y : A) → f x ≡ f y → x ≡ y) → (xs : List A) → Distinct xs → Distinct (map f xs)
distinct_map f one [] d = tt
distinct_map f one (x ∷ xs) d =
    ((λ i. let t = among_map f xs (f x) i in d.0 (subst (λ z. Among z xs) (sym (one x t.0 t.1.1)) t.1.0)), distinct_map f one xs d.1)

pub pigeonhole_by : {A : Type 0} (f : A → ℕ) → ((x y : A) → f x ≡ f y → x ≡ y) → (n : ℕ) (xs : List A) → Distinct xs → ((x : A) → Among x xs → f x < n) →
    length xs ≤ n
pigeonhole_by f one n xs d b =
    let h : length (map f xs) ≤ n =
    pigeonhole n (map f xs) (distinct_map f one xs d) (λ y i. let t = among_map f xs y i in subst (λ z. z < n) (sym t.1.1) (b t.0 t.1.0)) in
    omega (arith, length-map xs f)
