-- Which lists of numbers are a price of a kind.
use Rattle.std.proofs.Common.{◌≡◌, ℕ, zero, suc, ◌<◌, true, false, eqb, ltb, List, [], ◌∷◌, length, get_or, Some, None, sym, ap, ◌∙◌, ⊎_elim, arith}
use Rattle.std.proofs.lemmas.Bool.{and_left, and_right, cond-false, cond-true, le-ltb, cases_lt}
use Rattle.rows.specs.Rows.{Kind, all_below, is_row, open_at, price_of}

-- the numbers that were read, as the list that was given
pub single : (xs : List ℕ) (a : ℕ) → length xs ≡ 1 → a ≡ get_or xs 0 0 → a ∷ [] ≡ xs
single [] a n p = absurd (omega arith)
single (x ∷ []) a n p = λ i. p i ∷ []
single (x ∷ y ∷ xs) a n p = absurd (omega arith)

pub pair : (xs : List ℕ) (a b : ℕ) → length xs ≡ 2 → a ≡ get_or xs 0 0 → b ≡ get_or xs 1 0 → a ∷ b ∷ [] ≡ xs
pair [] a b n p q = absurd (omega arith)
pair (x ∷ xs) a b n p q = λ i. p i ∷ single xs b (omega arith) q i

pub made : (k : Kind) (xs ys : List ℕ) → ys ≡ xs → is_row k ys ≡ true → Some (open_at ys) ≡ price_of k xs
made k xs ys e h = sym (cond-true (is_row k ys) (Some (open_at ys)) None h) ∙ ap (price_of k) e

over : (c : ℕ) (xs : List ℕ) (i : ℕ) → i < length xs → (get_or xs i 0 < c → ⊥) → all_below c xs ≡ false
over c [] i l h = absurd (omega arith)
over c (x ∷ xs) zero l h = and_left (ltb x c) (all_below c xs) (le-ltb x c (⊎_elim (λ (b : x < c). absurd (h b)) (λ b. b) (cases_lt x c)))
over c (x ∷ xs) (suc i) l h = and_right (ltb x c) (all_below c xs) (over c xs i (omega arith) h)

-- a number that reaches the ceiling makes none
pub refused : (k : Kind) (xs : List ℕ) (i : ℕ) → i < length xs → (get_or xs i 0 < k.ceiling → ⊥) → None ≡ price_of k xs
refused k xs i l h = sym (cond-false (is_row k xs) (Some (open_at xs)) None
    (and_right (eqb (length xs) k.long) (all_below k.ceiling xs) (over k.ceiling xs i l h)))
