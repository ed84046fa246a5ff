-- What holds between a place and its neighbour in a direction.
use Rattle.std.proofs.Common.{◌≡◌, ℕ, ◌+◌, ◌*◌, ◌/◌, ◌%◌, ◌<◌, ◌≤◌, true, Some, sym, ap, ◌∙◌, arith}
use Rattle.std.proofs.lemmas.Nat.{div-add-mod', div-mul-add, mod-mul-add, mul-add-lt}
use Rattle.std.proofs.lemmas.Bool.Decides.{nat_tests}
use Rattle.lattice_meaning.specs.Directions.{Direction, turned}
use Rattle.lattice_meaning.specs.Shape.{Shape, column, in_limits, neighbour, next_column, next_row, place_count, row}
use Rattle.lattice_meaning.proofs.Limits.{column_in, limits, row_in}

-- q is the neighbour of p in direction d
pub record Neighbours (s : Shape) (d : Direction) (p q : ℕ) : Type 0 where
  pub from_in : p < place_count s
  pub to_in : q < place_count s
  pub left_in : d.left ≤ column s p
  pub up_in : d.up ≤ row s p
  pub column_is : column s q ≡ next_column s d p
  pub row_is : row s q ≡ next_row s d p

module _ (s : Shape) (w : 1 ≤ s.width) (d : Direction) (p q : ℕ) where
  pub neighbours : neighbour s d p ≡ Some q → Neighbours s d p q
  neighbours e =
      let x_in : next_column s d p < s.width = grind (arith, nat_tests) in
      let y_in : next_row s d p < s.height = grind (arith, nat_tests) in
      let here : next_row s d p * s.width + next_column s d p ≡ q = grind (arith, nat_tests) in
      let inside = mul-add-lt (next_row s d p) s.width (next_column s d p) s.height y_in x_in in
      record {
        from_in = grind (arith, nat_tests);
        to_in = omega arith;
        left_in = grind (arith, nat_tests);
        up_in = grind (arith, nat_tests);
        column_is = ap (λ (n : ℕ). n % s.width) (sym here) ∙ mod-mul-add (next_row s d p) s.width (next_column s d p) x_in;
        row_is = ap (λ (n : ℕ). n / s.width) (sym here) ∙ div-mul-add (next_row s d p) s.width (next_column s d p) x_in;
      }

  pub neighbour_is : Neighbours s d p q → neighbour s d p ≡ Some q
  neighbour_is n =
      let x_in : next_column s d p < s.width = omega (arith, n.column_is, column_in s w q) in
      let y_in : next_row s d p < s.height = omega (arith, n.row_is, row_in s w q n.to_in) in
      let here : next_row s d p * s.width + next_column s d p ≡ q = (λ i. sym n.row_is i * s.width + sym n.column_is i) ∙ div-add-mod' q s.width in
      grind (arith, nat_tests)

-- neighbours are places, of which there are few
pub neighbours_few : (s : Shape) → in_limits s ≡ true → (d : Direction) (p q : ℕ) → neighbour s d p ≡ Some q → (p < 4096) × (q < 4096)
neighbours_few s h d p q e =
    let l = limits s h in
    let n = neighbours s l.wide d p q e in
    (omega (arith, l.places_few, n.from_in), omega (arith, l.places_few, n.to_in))

-- and p is the neighbour of q the other way
pub neighbours_turned : (s : Shape) (d : Direction) (p q : ℕ) → Neighbours s d p q → Neighbours s (turned d) q p
neighbours_turned s d p q n = record {
  from_in = n.to_in;
  to_in = n.from_in;
  left_in = omega (arith, n.column_is, n.left_in);
  up_in = omega (arith, n.row_is, n.up_in);
  column_is = omega (arith, n.column_is, n.left_in);
  row_is = omega (arith, n.row_is, n.up_in);
}
