-- The standings of the first places closed.
use Rattle.std.specs.Prelude.{ℕ, zero, suc, List, [], ◌∷◌}
use Rattle.rows.specs.Rows.{Price, closed}

-- the first n closed, the others as they are
unfoldable pub closed_first : ℕ → List Price → List Price
closed_first zero gs = gs
closed_first (suc n) [] = []
closed_first (suc n) (g ∷ gs) = closed ∷ closed_first n gs
