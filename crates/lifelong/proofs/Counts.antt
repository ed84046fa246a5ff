-- Steps as numbers, and how often a place stands among distinct steps.
use Rattle.std.proofs.Common.{◌≡◌, ℕ, ◌+◌, ◌*◌, ◌≤◌, cond, eqb, ◌⊎◌, List, [], ◌∷◌, map, sym, refl, ◌∙◌, subst, inl, inr, ⊎_elim, arith}
use Rattle.std.proofs.lemmas.Bool.{cases_eq, cond-false, cond-true, eq-eqb, ne_eqb}
use Rattle.chart.specs.Routes.{Among, Distinct}
use Rattle.lifelong.specs.Step.{Change, lowered, raised}
use Rattle.lifelong.specs.Run.{Expansion, how_often}

abbrev pub one_or_none : Change → ℕ
one_or_none lowered = 0
one_or_none raised = 1

-- a number for each step that may be taken
abbrev pub code : Expansion → ℕ
code e = 2 * e.place + one_or_none e.change

one_change : (a b : Change) → one_or_none a ≡ one_or_none b → a ≡ b
one_change lowered lowered e = refl
one_change lowered raised e = absurd (omega arith)
one_change raised lowered e = absurd (omega arith)
one_change raised raised e = refl

pub change_below : (c : Change) → one_or_none c ≤ 1
change_below lowered = omega arith
change_below raised = omega arith

pub one_code : (a b : Expansion) → code a ≡ code b → a ≡ b
one_code a b e =
    let x = change_below a.change in
    let y = change_below b.change in
    let p : a.place ≡ b.place = omega arith in
    let c : a.change ≡ b.change = one_change a.change b.change (omega arith) in
    λ i. record { place = p i; change = c i }

-- of distinct steps, at most one lowers a place and at most one raises it

abbrev pub often : ℕ → List Expansion → ℕ
often x es = how_often x (map (λ e. e.place) es)

abbrev Absent : ℕ → Change → List Expansion → Type 0
Absent x c es = Among (record { place = x; change = c }) es → ⊥

abbrev other : Change → Change
other lowered = raised
other raised = lowered

one_or_other : (c d : Change) → (d ≡ c) ⊎ (d ≡ other c)
one_or_other lowered lowered = inl refl
one_or_other lowered raised = inr refl
one_or_other raised lowered = inr refl
one_or_other raised raised = inl refl

passed : (x : ℕ) (e : Expansion) (es : List Expansion) → (e.place ≡ x → ⊥) → often x (e ∷ es) ≡ often x es
passed x e es n = let z : cond {A = ℕ} (eqb e.place x) 1 0 ≡ 0 = cond-false (eqb e.place x) 1 0 (ne_eqb e.place x n) in omega arith

met : (x : ℕ) (e : Expansion) (es : List Expansion) → e.place ≡ x → often x (e ∷ es) ≡ 1 + often x es
met x e es q = let z : cond {A = ℕ} (eqb e.place x) 1 0 ≡ 1 = cond-true (eqb e.place x) 1 0 (eq-eqb e.place x q) in omega arith

named : (x : ℕ) (e : Expansion) → e.place ≡ x → (c : Change) → e.change ≡ c → e ≡ record { place = x; change = c }
named x e p c q = λ i. record { place = p i; change = q i }

absent_none : (x : ℕ) (c : Change) (es : List Expansion) → Absent x c es → Absent x (other c) es → often x es ≡ 0
absent_none x c [] a b = refl
absent_none x c (e ∷ es) a b = ⊎_elim
    (λ (p : e.place ≡ x). ⊎_elim (λ (q : e.change ≡ c). absurd (a (inl (sym (named x e p c q)))))
    (λ (q : e.change ≡ other c). absurd (b (inl (sym (named x e p (other c) q))))) (one_or_other c e.change))
    (λ (n : e.place ≡ x → ⊥). passed x e es n ∙ absent_none x c es (λ i. a (inr i)) (λ i. b (inr i))) (cases_eq e.place x)

gone : (x : ℕ) (e : Expansion) (es : List Expansion) (p : e.place ≡ x) (c : Change) → e.change ≡ c → (Among e es → ⊥) → Absent x c es
gone x e es p c q f i = f (subst (λ z. Among z es) (sym (named x e p c q)) i)

absent_once : (x : ℕ) (c : Change) (es : List Expansion) → Distinct es → Absent x c es → often x es ≤ 1
absent_once x c [] d a = omega arith
absent_once x c (e ∷ es) d a = ⊎_elim
    (λ (p : e.place ≡ x). ⊎_elim
    (λ (q : e.change ≡ c). absurd (a (inl (sym (named x e p c q)))))
    (λ (q : e.change ≡ other c). omega (arith, met x e es p, absent_none x c es (λ i. a (inr i)) (gone x e es p (other c) q d.0)))
    (one_or_other c e.change))
    (λ (n : e.place ≡ x → ⊥). omega (arith, passed x e es n, absent_once x c es d.1 (λ i. a (inr i)))) (cases_eq e.place x)

pub distinct_twice : (x : ℕ) (es : List Expansion) → Distinct es → often x es ≤ 2
distinct_twice x [] d = omega arith
distinct_twice x (e ∷ es) d = ⊎_elim
    (λ (p : e.place ≡ x). omega (arith, met x e es p, absent_once x e.change es d.1 (gone x e es p e.change refl d.0)))
    (λ (n : e.place ≡ x → ⊥). omega (arith, passed x e es n, distinct_twice x es d.1)) (cases_eq e.place x)
