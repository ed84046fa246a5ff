-- How large a price can grow: at each position at most n times the largest number of a link.
use Rattle.std.specs.Prelude.{ℕ, ◌*◌, ◌≤◌, List, [], ◌∷◌}
use Rattle.rows.specs.Rows.{Kind, Price, closed, open_at}

-- at each position at most n times the number of the first row, and no position more or less
abbrev pub EachWithin : ℕ → List ℕ → List ℕ → Type 0
EachWithin n [] [] = Unit {0}
EachWithin n [] (x ∷ xs) = ⊥
EachWithin n (l ∷ ls) [] = ⊥
EachWithin n (l ∷ ls) (x ∷ xs) = (x ≤ n * l) × EachWithin n ls xs

-- closed, or a row with a number for each position, at most n times the kind's largest there
abbrev pub Within : Kind → ℕ → Price → Type 0
Within k n closed = Unit {0}
Within k n (open_at xs) = EachWithin n k.largest xs
