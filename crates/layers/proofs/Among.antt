-- The library's search through a list asks what `is_among` does.
use Rattle.std.proofs.Common.{◌≡◌, ℕ, Bool, ◌||◌, List, [], ◌∷◌, eqb, refl, ap}
use Rattle.std.specs.List.{list_any}
use Rattle.layer_meaning.specs.Guarded.{is_among}

pub any_among : (ps : List ℕ) (p : ℕ) → list_any (λ (q : ℕ). eqb q p) ps ≡ is_among ps p
any_among [] p = refl
any_among (q ∷ qs) p = ap (λ (b : Bool). eqb q p || b) (any_among qs p)
