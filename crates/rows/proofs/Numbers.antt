-- A price read as one number: a row in base ceiling, closed above all rows. Order and sum of prices are then
-- those of the numbers, where no sum reaches the ceiling.
use Rattle.std.proofs.Common.{◌≡◌, ℕ, zero, suc, ◌+◌, ◌*◌, ◌^◌, ◌<◌, ◌≤◌, min, Bool, true, false, cond, eqb, ltb, ◌⊎◌, List, [], ◌∷◌, length, replicate, sym, refl, ap, ◌∙◌, subst, inl, inr, ⊎_elim, mul-le-mul_right, arith}
use native.Mathlib.Nat.{pow-succ', pow-zero}
use Rattle.std.proofs.lemmas.Bool.{and_parts, both_ways, cases_Bool, cases_order, cond-false, cond-true, eq-eqb, le-ltb, lt-ltb, ltb-true, ne_eqb}
use Rattle.rows.specs.Rows.{Kind, Price, Proper, add_rows, all_below, capped, closed, is_open, is_row, less, open_at, row_less, smaller, sum, zero_of}
use Rattle.rows.proofs.Order.{less_total}
use Rattle.rows.proofs.Sums.{add_rows_length, capped_open, row_below, row_length, sum_proper}

-- how many rows of this length there are
abbrev width : ℕ → List ℕ → ℕ
width c xs = c ^ length xs

abbrev value : ℕ → List ℕ → ℕ
value c [] = 0
value c (x ∷ xs) = x * width c xs + value c xs

unfoldable pub top : Kind → ℕ
top k = k.ceiling ^ k.long

unfoldable pub rank : Kind → Price → ℕ
rank k closed = top k
rank k (open_at xs) = value k.ceiling xs

-- rows

value_below : (c : ℕ) (xs : List ℕ) → all_below c xs ≡ true → value c xs < width c xs
value_below c [] h = let p : c ^ 0 ≡ 1 = pow-zero c in omega arith
value_below c (x ∷ xs) h =
    let t = and_parts (ltb x c) (all_below c xs) h in
    let ih : value c xs < width c xs = value_below c xs t.1 in
    let m : suc x * width c xs ≤ c * width c xs = mul-le-mul_right (width c xs) (ltb-true x c t.0) in
    let p : c ^ suc (length xs) ≡ c * width c xs = pow-succ' c (length xs) in omega arith

value_sum : (c : ℕ) (xs ys : List ℕ) → length xs ≡ length ys → value c (add_rows xs ys) ≡ value c xs + value c ys
value_sum c [] [] e = refl
value_sum c [] (y ∷ ys) e = absurd (omega arith)
value_sum c (x ∷ xs) [] e = absurd (omega arith)
value_sum c (x ∷ xs) (y ∷ ys) e =
    let d : length xs ≡ length ys = omega arith in
    let v : width c (add_rows xs ys) ≡ width c xs = ap (λ n. c ^ n) (add_rows_length xs ys d) in
    let w : width c ys ≡ width c xs = ap (λ n. c ^ n) (sym d) in
    let ih : value c (add_rows xs ys) ≡ value c xs + value c ys = value_sum c xs ys d in
    rw (v, w) (omega arith)

-- what a test says of the two numbers that it compares
abbrev Tells : Bool → ℕ → ℕ → Type 0
Tells b m n = ((b ≡ true) × (m < n)) ⊎ ((b ≡ false) × (n ≤ m))

row_tells : (c : ℕ) (xs ys : List ℕ) → length xs ≡ length ys → all_below c xs ≡ true → all_below c ys ≡ true → Tells (row_less xs ys) (value c xs) (value c ys)
row_tells c [] [] e f h = inr (refl, omega arith)
row_tells c [] (y ∷ ys) e f h = absurd (omega arith)
row_tells c (x ∷ xs) [] e f h = absurd (omega arith)
row_tells c (x ∷ xs) (y ∷ ys) e f h = go (row_tells c xs ys (omega arith) below_x below_y) (cases_order x y)
  where
    below_x : all_below c xs ≡ true
    below_x = (and_parts (ltb x c) (all_below c xs) f).1

    below_y : all_below c ys ≡ true
    below_y = (and_parts (ltb y c) (all_below c ys) h).1

    w : width c ys ≡ width c xs
    w = ap (λ n. c ^ n) (omega arith)

    vx : value c xs < width c xs
    vx = value_below c xs below_x

    vy : value c ys < width c ys
    vy = value_below c ys below_y

    go : Tells (row_less xs ys) (value c xs) (value c ys) → (x ≡ y) ⊎ ((x < y) ⊎ (y < x)) →
        Tells (cond (eqb x y) (row_less xs ys) (ltb x y)) (x * width c xs + value c xs) (y * width c ys + value c ys)
    go t (inl q) = rw (eq-eqb x y q, w, q) (⊎_elim
        (λ (z : (row_less xs ys ≡ true) × (value c xs < value c ys)). inl (z.0, omega arith))
        (λ (z : (row_less xs ys ≡ false) × (value c ys ≤ value c xs)). inr (z.0, omega arith)) t)
    go t (inr (inl q)) =
        let m : suc x * width c xs ≤ y * width c xs = mul-le-mul_right (width c xs) q in
        rw (ne_eqb x y (λ z. omega arith), lt-ltb x y q, w) (inl (refl, omega (arith, vx)))
    go t (inr (inr q)) =
        let m : suc y * width c xs ≤ x * width c xs = mul-le-mul_right (width c xs) q in
        rw (ne_eqb x y (λ z. omega arith), le-ltb x y (omega arith), w) (inr (refl, omega (arith, vy, w)))

-- prices

row_rank : (k : Kind) (xs : List ℕ) → is_row k xs ≡ true → value k.ceiling xs < top k
unfolding top
row_rank k xs h =
    let v : value k.ceiling xs < width k.ceiling xs = value_below k.ceiling xs (row_below k xs h) in
    let e : width k.ceiling xs ≡ k.ceiling ^ k.long = ap (λ n. k.ceiling ^ n) (row_length k xs h) in omega arith

pub rank_closed : (k : Kind) → rank k closed ≡ top k
unfolding rank
rank_closed k = refl

pub rank_open : (k : Kind) (p : Price) → Proper k p → is_open p ≡ true → rank k p < top k
unfolding rank
rank_open k closed f o = absurd (both_ways false refl o)
rank_open k (open_at xs) f o = row_rank k xs f

pub rank_capped : (k : Kind) (p : Price) → Proper k p → rank k p ≤ top k
unfolding rank
rank_capped k closed f = omega arith
rank_capped k (open_at xs) f = omega (arith, row_rank k xs f)

zeros_value : (c n : ℕ) → value c (replicate n 0) ≡ 0
zeros_value c zero = refl
zeros_value c (suc n) = let r : value c (replicate n 0) ≡ 0 = zeros_value c n in omega arith

pub rank_zero : (k : Kind) → rank k (zero_of k) ≡ 0
unfolding rank
rank_zero k = zeros_value k.ceiling k.long

less_tells : (k : Kind) (p q : Price) → Proper k p → Proper k q → Tells (less p q) (rank k p) (rank k q)
unfolding rank
less_tells k closed closed f h = inr (refl, omega arith)
less_tells k closed (open_at ys) f h = inr (refl, omega (arith, row_rank k ys h))
less_tells k (open_at xs) closed f h = inl (refl, row_rank k xs f)
less_tells k (open_at xs) (open_at ys) f h = row_tells k.ceiling xs ys (row_length k xs f ∙ sym (row_length k ys h)) (row_below k xs f) (row_below k ys h)

module _ (k : Kind) (p q : Price) (f : Proper k p) (h : Proper k q) where
  pub less_rank : less p q ≡ true → rank k p < rank k q
  less_rank e = ⊎_elim (λ (z : (less p q ≡ true) × (rank k p < rank k q)). z.1)
      (λ (z : (less p q ≡ false) × (rank k q ≤ rank k p)). absurd (both_ways (less p q) z.0 e)) (less_tells k p q f h)

  pub not_less_rank : less p q ≡ false → rank k q ≤ rank k p
  not_less_rank e = ⊎_elim (λ (z : (less p q ≡ true) × (rank k p < rank k q)). absurd (both_ways (less p q) e z.0))
      (λ (z : (less p q ≡ false) × (rank k q ≤ rank k p)). z.1) (less_tells k p q f h)

  pub rank_less : rank k p < rank k q → less p q ≡ true
  rank_less l = ⊎_elim (λ t. t) (λ e. absurd (omega (arith, not_less_rank e))) (cases_Bool (less p q))

  pub rank_not_less : rank k q ≤ rank k p → less p q ≡ false
  rank_not_less l = ⊎_elim (λ e. absurd (omega (arith, less_rank e))) (λ t. t) (cases_Bool (less p q))

  pub rank_smaller : rank k (smaller p q) ≡ min (rank k p) (rank k q)
  rank_smaller = ⊎_elim
      (λ (e : less p q ≡ true). ap (rank k) (cond-true (less p q) p q e) ∙ (let l = less_rank e in omega arith))
      (λ (e : less p q ≡ false). ap (rank k) (cond-false (less p q) p q e) ∙ (let l = not_less_rank e in omega arith)) (cases_Bool (less p q))

  pub smaller_proper : Proper k (smaller p q)
  smaller_proper = go (less p q)
    where
      go : (b : Bool) → Proper k (cond b p q)
      go true = f
      go false = h

-- prices of one number are one
pub rank_same : (k : Kind) (p q : Price) → Proper k p → Proper k q → rank k p ≡ rank k q → p ≡ q
rank_same k p q f h e = less_total p q (rank_not_less k p q f h (omega arith)) (rank_not_less k q p h f (omega arith))

pub top_is_closed : (k : Kind) (p : Price) → Proper k p → top k ≤ rank k p → p ≡ closed
top_is_closed k closed f h = refl
top_is_closed k (open_at xs) f h = absurd (omega (arith, rank_open k (open_at xs) f refl))

pub below_top_is_open : (k : Kind) (p : Price) → rank k p < top k → is_open p ≡ true
below_top_is_open k closed h = absurd (omega (arith, rank_closed k))
below_top_is_open k (open_at xs) h = refl

-- the sum of two open prices is open
abbrev pub Uncapped : Kind → Price → Price → Type 0
Uncapped k p q = is_open p ≡ true → is_open q ≡ true → is_open (sum k p q) ≡ true

pub rank_sum : (k : Kind) (p q : Price) → Proper k p → Proper k q → Uncapped k p q → rank k (sum k p q) ≡ min (rank k p + rank k q) (top k)
unfolding rank
rank_sum k closed q f h c = omega arith
rank_sum k (open_at xs) closed f h c = omega arith
rank_sum k (open_at xs) (open_at ys) f h c =
    let e : length xs ≡ length ys = row_length k xs f ∙ sym (row_length k ys h) in
    let o : is_open (capped k (add_rows xs ys)) ≡ true = c refl refl in
    let s : capped k (add_rows xs ys) ≡ open_at (add_rows xs ys) = capped_open k (add_rows xs ys) o in
    let v : value k.ceiling (add_rows xs ys) ≡ value k.ceiling xs + value k.ceiling ys = value_sum k.ceiling xs ys e in
    let b : value k.ceiling (add_rows xs ys) < top k = row_rank k (add_rows xs ys) (subst (Proper k) s (sum_proper k (open_at xs) (open_at ys) f h)) in
    ap (rank k) s ∙ (let z : value k.ceiling (add_rows xs ys) ≡ min (value k.ceiling xs + value k.ceiling ys) (top k) = omega arith in z)
