-- Each direction of the list leads one step, and the distance to the goal falls by at most one.
use Rattle.std.proofs.Common.{◌≡◌, ℕ, zero, suc, ◌+◌, ◌-◌, ◌*◌, ◌/◌, ◌%◌, ◌<◌, ◌≤◌, refl, ap, mul-one, mul-add, arith}
use Rattle.std.proofs.lemmas.Nat.{mul-le}
use Rattle.lattice_meaning.specs.Directions.{Direction, back, direction, links_per_place, turned}
use Rattle.lattice_meaning.specs.Prices.{apart, distance}
use Rattle.lattice_meaning.specs.Shape.{Shape, column, place_count, row}
use Rattle.lattice_meaning.proofs.Cells.{Neighbours}
use Rattle.lattice_meaning.proofs.Limits.{Limits, column_in, row_in}

abbrev pub OneStep : Direction → Type 0
OneStep d = d.left + d.right + d.up + d.down ≡ 1

pub one_step : (d : ℕ) → d < links_per_place → OneStep (direction d)
one_step zero l = refl
one_step (suc zero) l = refl
one_step (suc (suc zero)) l = refl
one_step (suc (suc (suc zero))) l = refl
one_step (suc (suc (suc (suc d)))) l = absurd (omega arith)

-- the direction that leads back is the other way
pub back_turned : (d : ℕ) → d < links_per_place → turned (direction d) ≡ direction (back d)
back_turned zero l = refl
back_turned (suc zero) l = refl
back_turned (suc (suc zero)) l = refl
back_turned (suc (suc (suc zero))) l = refl
back_turned (suc (suc (suc (suc d)))) l = absurd (omega arith)

-- so far back and on, a number is no nearer to a third than by both
closer : (a b g less more : ℕ) → less ≤ a → b ≡ a + more - less → apart a g ≤ less + more + apart b g
closer a b g less more l e = omega arith

module _ (s : Shape) (d : Direction) (p q : ℕ) (one : OneStep d) (n : Neighbours s d p q) where
  -- neighbours are two places
  pub not_same : p ≡ q → ⊥
  not_same e =
      let x = ap (λ (m : ℕ). m % s.width) e in
      let y = ap (λ (m : ℕ). m / s.width) e in
      omega (arith, n.column_is, n.row_is, n.left_in, n.up_in)

  nearer : distance s p ≤ 1 + distance s q
  nearer =
      let x = closer (column s p) (column s q) (column s s.goal) d.left d.right n.left_in n.column_is in
      let y = closer (row s p) (row s q) (row s s.goal) d.up d.down n.up_in n.row_is in
      let long : d.left + d.right + d.up + d.down ≡ 1 = one in
      omega arith

  pub least_nearer : s.least * distance s p ≤ s.least + s.least * distance s q
  least_nearer =
      let near = nearer in
      omega (arith, mul-le s.least (distance s p) s.least (1 + distance s q) (omega arith) near, mul-add s.least 1 (distance s q), mul-one s.least)

-- no place is further from the goal than 126 steps
pub estimate_most : (s : Shape) → Limits s → (p : ℕ) → p < place_count s → s.least * distance s p ≤ 126000000
estimate_most s l p h =
    let x = column_in s l.wide p in
    let y = row_in s l.wide p h in
    let u = column_in s l.wide s.goal in
    let v = row_in s l.wide s.goal l.goal_in in
    mul-le s.least (distance s p) 1000000 126 l.step_most (omega arith)
