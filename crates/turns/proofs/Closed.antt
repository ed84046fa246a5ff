-- The standings of the first places closed.
use Rattle.std.proofs.Common.{◌≡◌, ℕ, zero, suc, ◌<◌, List, [], ◌∷◌, length, refl, ap, arith}
use Rattle.rows.specs.Rows.{Price, closed}
use Rattle.lifelong.specs.Standings.{standing_at}
use Rattle.lpa_star.specs.Closing.{closed_first}

pub closed_long : (n : ℕ) (gs : List Price) → length (closed_first n gs) ≡ length gs
unfolding closed_first
closed_long zero gs = refl
closed_long (suc n) [] = refl
closed_long (suc n) (g ∷ gs) = ap suc (closed_long n gs)

pub closed_at : (n p : ℕ) (gs : List Price) → p < n → standing_at (closed_first n gs) p ≡ closed
unfolding closed_first
closed_at zero p gs l = absurd (omega arith)
closed_at (suc n) p [] l = refl
closed_at (suc n) zero (g ∷ gs) l = refl
closed_at (suc n) (suc p) (g ∷ gs) l = closed_at n p gs (omega arith)
