-- Columns of a list of records, and one element of a list as an option.
use Rattle.std.proofs.Common.{◌≡◌, ℕ, zero, suc, ◌<◌, List, [], ◌∷◌, map, length, get_or, set, Some, sym, refl, ap, ◌∙◌}
use mathlib.Core.List.{map-map}
use Rattle.std.specs.Option.{option_map}
use Rattle.std.specs.List.{slice_get}
use Rattle.std.proofs.lemmas.List.{map-set}
use lib.Seq.{map-set_same}
use Rattle.std.proofs.lemmas.Option.{slice_get-map, slice_get-get_or}

-- one record's part of a column
pub nth_column : {X Y : Type 0} (f : X → Y) (xs : List X) (i : ℕ) (d : X) → i < length xs → slice_get (map f xs) i ≡ Some (f (get_or xs i d))
nth_column f xs i d l = slice_get-map f xs i ∙ ap (option_map f) (slice_get-get_or xs i d l)

pub nth_set_other : {X : Type 0} (xs : List X) (i j : ℕ) (y : X) → (j ≡ i → ⊥) → slice_get (set xs i y) j ≡ slice_get xs j
nth_set_other [] i j y u = refl
nth_set_other (x ∷ xs) zero zero y u = absurd (u refl)
nth_set_other (x ∷ xs) zero (suc j) y u = refl
nth_set_other (x ∷ xs) (suc i) zero y u = refl
nth_set_other (x ∷ xs) (suc i) (suc j) y u = nth_set_other xs i j y (λ e. u (ap suc e))

-- a column of a column
module _ {X Y Z : Type 0} (f : X → Y) (g : Y → Z) (xs ys : List X) where
  pub column_same : map f ys ≡ map f xs → map (λ x. g (f x)) ys ≡ map (λ x. g (f x)) xs
  column_same e = sym (map-map g f ys) ∙ ap (map g) e ∙ map-map g f xs

  pub column_set : (i : ℕ) (y : Y) → map f ys ≡ set (map f xs) i y → map (λ x. g (f x)) ys ≡ set (map (λ x. g (f x)) xs) i (g y)
  column_set i y e = sym (map-map g f ys) ∙ ap (map g) e ∙ map-set g (map f xs) i y ∙ ap (λ zs. set zs i (g y)) (map-map g f xs)

-- what one write leaves of a column
pub ruleset column_writes = (map-set, map-set_same)
