-- What the sum keeps, for every kind.
use Rattle.std.proofs.Common.{◌≡◌, ℕ, zero, suc, ◌+◌, ◌<◌, ◌≤◌, Bool, true, false, cond, eqb, ltb, ◌⊎◌, List, [], ◌∷◌, length, replicate, sym, refl, ap, ◌∙◌, ⊎_elim, add_assoc, add_comm, zero-add, arith}
use Rattle.std.proofs.lemmas.Bool.{and_cases, and_from, and_left, and_parts, and_right, both_ways, cases_order, cond-false, cond-true, eq-eqb, eqb-true, le-ltb, lt-ltb, ltb-false, ne_eqb}
use Rattle.rows.specs.Rows.{Kind, Price, Proper, add_rows, all_below, capped, closed, is_open, is_row, less, zero_of, open_at, row_less, sum}
use Rattle.rows.specs.Laws.{Laws}
use Rattle.rows.proofs.Order.{less_self, less_total}

-- rows

add_rows_comm : (xs ys : List ℕ) → add_rows xs ys ≡ add_rows ys xs
add_rows_comm [] [] = refl
add_rows_comm [] (y ∷ ys) = refl
add_rows_comm (x ∷ xs) [] = refl
add_rows_comm (x ∷ xs) (y ∷ ys) = λ i. add_comm x y i ∷ add_rows_comm xs ys i

add_rows_assoc : (xs ys zs : List ℕ) → add_rows (add_rows xs ys) zs ≡ add_rows xs (add_rows ys zs)
add_rows_assoc [] ys zs = refl
add_rows_assoc (x ∷ xs) [] zs = refl
add_rows_assoc (x ∷ xs) (y ∷ ys) [] = refl
add_rows_assoc (x ∷ xs) (y ∷ ys) (z ∷ zs) = λ i. add_assoc x y z i ∷ add_rows_assoc xs ys zs i

pub add_rows_length : (xs ys : List ℕ) → length xs ≡ length ys → length (add_rows xs ys) ≡ length xs
add_rows_length [] ys h = refl
add_rows_length (x ∷ xs) [] h = absurd (omega arith)
add_rows_length (x ∷ xs) (y ∷ ys) h = ap suc (add_rows_length xs ys (omega arith))

zeros_neutral : (n : ℕ) (xs : List ℕ) → length xs ≡ n → add_rows (replicate n 0) xs ≡ xs
zeros_neutral zero [] h = refl
zeros_neutral zero (x ∷ xs) h = absurd (omega arith)
zeros_neutral (suc n) [] h = absurd (omega arith)
zeros_neutral (suc n) (x ∷ xs) h = λ i. zero-add x i ∷ zeros_neutral n xs (omega arith) i

eqb_add : (x y z : ℕ) → eqb (x + z) (y + z) ≡ eqb x y
eqb_add x y z = ⊎_elim
    (λ (e : x ≡ y). eq-eqb (x + z) (y + z) (omega arith) ∙ sym (eq-eqb x y e))
    (λ (ne : (x < y) ⊎ (y < x)). let n : x ≡ y → ⊥ = ⊎_elim (λ l. omega arith) (λ l. omega arith) ne in
    ne_eqb (x + z) (y + z) (λ e. n (omega arith)) ∙ sym (ne_eqb x y n)) (cases_order x y)

ltb_add : (x y z : ℕ) → ltb (x + z) (y + z) ≡ ltb x y
ltb_add x y z = ⊎_elim
    (λ (e : x ≡ y). le-ltb (x + z) (y + z) (omega arith) ∙ sym (le-ltb x y (omega arith)))
    (⊎_elim (λ (l : x < y). lt-ltb (x + z) (y + z) (omega arith) ∙ sym (lt-ltb x y l))
    (λ (l : y < x). le-ltb (x + z) (y + z) (omega arith) ∙ sym (le-ltb x y (omega arith)))) (cases_order x y)

row_less_add : (xs ys zs : List ℕ) → length xs ≡ length zs → length ys ≡ length zs → row_less (add_rows xs zs) (add_rows ys zs) ≡ row_less xs ys
row_less_add [] [] zs h k = refl
row_less_add [] (y ∷ ys) zs h k = absurd (omega arith)
row_less_add (x ∷ xs) [] zs h k = absurd (omega arith)
row_less_add (x ∷ xs) (y ∷ ys) [] h k = absurd (omega arith)
row_less_add (x ∷ xs) (y ∷ ys) (z ∷ zs) h k =
    λ i. cond (eqb_add x y z i) (row_less_add xs ys zs (omega arith) (omega arith) i) (ltb_add x y z i)

-- a number that reaches the ceiling still does after a sum
over_stays : (c : ℕ) (us zs : List ℕ) → length us ≡ length zs → all_below c us ≡ false → all_below c (add_rows us zs) ≡ false
over_stays c [] zs e h = h
over_stays c (u ∷ us) [] e h = absurd (omega arith)
over_stays c (u ∷ us) (z ∷ zs) e h = ⊎_elim
    (λ (l : ltb u c ≡ false). and_left (ltb (u + z) c) (all_below c (add_rows us zs)) (le-ltb (u + z) c (let q = ltb-false u c l in omega arith)))
    (λ (l : all_below c us ≡ false). and_right (ltb (u + z) c) (all_below c (add_rows us zs)) (over_stays c us zs (omega arith) l))
    (and_cases (ltb u c) (all_below c us) h)

-- prices

pub row_length : (k : Kind) (xs : List ℕ) → is_row k xs ≡ true → length xs ≡ k.long
row_length k xs h = eqb-true (length xs) k.long (and_parts (eqb (length xs) k.long) (all_below k.ceiling xs) h).0

pub row_below : (k : Kind) (xs : List ℕ) → is_row k xs ≡ true → all_below k.ceiling xs ≡ true
row_below k xs h = (and_parts (eqb (length xs) k.long) (all_below k.ceiling xs) h).1

pub row_made : (k : Kind) (xs : List ℕ) → length xs ≡ k.long → all_below k.ceiling xs ≡ true → is_row k xs ≡ true
row_made k xs e h = and_from (eqb (length xs) k.long) (all_below k.ceiling xs) (eq-eqb (length xs) k.long e) h

same_length : (k : Kind) (xs ys : List ℕ) → is_row k xs ≡ true → is_row k ys ≡ true → length xs ≡ length ys
same_length k xs ys p q = row_length k xs p ∙ sym (row_length k ys q)

pub sum_comm : (k : Kind) (p q : Price) → sum k p q ≡ sum k q p
sum_comm k closed closed = refl
sum_comm k closed (open_at ys) = refl
sum_comm k (open_at xs) closed = refl
sum_comm k (open_at xs) (open_at ys) = ap (capped k) (add_rows_comm xs ys)

pub sum_closed : (k : Kind) (p : Price) → sum k p closed ≡ closed
sum_closed k p = sum_comm k p closed

-- a sum that is open has its numbers
pub capped_open : (k : Kind) (xs : List ℕ) → is_open (capped k xs) ≡ true → capped k xs ≡ open_at xs
capped_open k xs h = go (all_below k.ceiling xs) h
  where
    go : (b : Bool) → is_open (cond b (open_at xs) closed) ≡ true → cond b (open_at xs) closed ≡ open_at xs
    go true h = refl
    go false h = absurd (both_ways false refl h)

pub capped_proper : (k : Kind) (xs : List ℕ) → length xs ≡ k.long → Proper k (capped k xs)
capped_proper k xs e = go (all_below k.ceiling xs) refl
  where
    go : (b : Bool) → all_below k.ceiling xs ≡ b → Proper k (cond b (open_at xs) closed)
    go true h = row_made k xs e h
    go false h = tt

pub sum_proper : (k : Kind) (p q : Price) → Proper k p → Proper k q → Proper k (sum k p q)
sum_proper k closed q a b = tt
sum_proper k (open_at xs) closed a b = tt
sum_proper k (open_at xs) (open_at ys) a b = capped_proper k (add_rows xs ys) (add_rows_length xs ys (same_length k xs ys a b) ∙ row_length k xs a)

-- a row more, where the first sum may be closed
capped_more : (k : Kind) (us zs : List ℕ) → length us ≡ length zs → sum k (capped k us) (open_at zs) ≡ capped k (add_rows us zs)
capped_more k us zs e = go (all_below k.ceiling us) refl
  where
    go : (b : Bool) → all_below k.ceiling us ≡ b → sum k (cond b (open_at us) closed) (open_at zs) ≡ capped k (add_rows us zs)
    go true h = refl
    go false h = sym (cond-false (all_below k.ceiling (add_rows us zs)) (open_at (add_rows us zs)) closed (over_stays k.ceiling us zs e h))

pub sum_assoc : (k : Kind) (p q r : Price) → Proper k p → Proper k q → Proper k r → sum k (sum k p q) r ≡ sum k p (sum k q r)
sum_assoc k closed q r a b c = refl
sum_assoc k (open_at xs) closed r a b c = refl
sum_assoc k (open_at xs) (open_at ys) closed a b c = sum_closed k (capped k (add_rows xs ys))
sum_assoc k (open_at xs) (open_at ys) (open_at zs) a b c =
    let xy : length xs ≡ length ys = same_length k xs ys a b in
    let yz : length ys ≡ length zs = same_length k ys zs b c in
    capped_more k (add_rows xs ys) zs (add_rows_length xs ys xy ∙ xy ∙ yz)
    ∙ ap (capped k) (add_rows_assoc xs ys zs ∙ add_rows_comm xs (add_rows ys zs))
    ∙ sym (capped_more k (add_rows ys zs) xs (add_rows_length ys zs yz ∙ sym xy))
    ∙ sum_comm k (capped k (add_rows ys zs)) (open_at xs)

pub sum_zero : (k : Kind) (p : Price) → Proper k p → sum k (zero_of k) p ≡ p
sum_zero k closed a = refl
sum_zero k (open_at xs) a =
    ap (capped k) (zeros_neutral k.long xs (row_length k xs a))
    ∙ cond-true (all_below k.ceiling xs) (open_at xs) closed (row_below k xs a)

pub sum_keeps_order : (k : Kind) (p q r : Price) → Proper k p → Proper k q → Proper k r →
    is_open (sum k p r) ≡ true → is_open (sum k q r) ≡ true → less (sum k p r) (sum k q r) ≡ less p q
sum_keeps_order k closed q r a b c h i = absurd (both_ways false refl h)
sum_keeps_order k (open_at xs) closed r a b c h i = absurd (both_ways false refl i)
sum_keeps_order k (open_at xs) (open_at ys) closed a b c h i = absurd (both_ways false refl h)
sum_keeps_order k (open_at xs) (open_at ys) (open_at zs) a b c h i =
    (λ j. less (capped_open k (add_rows xs zs) h j) (capped_open k (add_rows ys zs) i j))
    ∙ row_less_add xs ys zs (same_length k xs zs a c) (same_length k ys zs b c)

pub sum_keeps_equality : (k : Kind) (p q r : Price) → Proper k p → Proper k q → Proper k r →
    is_open (sum k p r) ≡ true → is_open (sum k q r) ≡ true → sum k p r ≡ sum k q r → p ≡ q
sum_keeps_equality k p q r a b c h i e = less_total p q
    (sym (sum_keeps_order k p q r a b c h i) ∙ ap (λ s. less s (sum k q r)) e ∙ less_self (sum k q r))
    (sym (sum_keeps_order k q p r b a c i h) ∙ ap (λ s. less (sum k q r) s) e ∙ less_self (sum k q r))

pub laws_of : (k : Kind) → 1 ≤ k.long → length k.largest ≡ k.long → Laws k
laws_of k s m = record {
  some = s;
  measured = m;
  keeps_order = sum_keeps_order k;
  keeps_equality = sum_keeps_equality k;
  proper_sum = sum_proper k;
  associative = sum_assoc k;
  commutative = sum_comm k;
  zero_neutral = sum_zero k;
}
