-- What the limits of a shape say.
use Rattle.std.proofs.Common.{◌≡◌, ℕ, ◌/◌, ◌%◌, ◌<◌, ◌≤◌, true, None, arith}
use Rattle.std.proofs.lemmas.Nat.{div_below, mod_below, mul-le}
use Rattle.std.proofs.lemmas.Bool.Decides.{nat_tests}
use Rattle.lattice_meaning.specs.Shape.{Shape, in_limits, layout_refusal, link_count, place_count}

pub record Limits (s : Shape) : Type 0 where
  pub wide : 1 ≤ s.width
  pub wide_most : s.width ≤ 64
  pub high : 1 ≤ s.height
  pub high_most : s.height ≤ 64
  pub step : 1 ≤ s.least
  pub step_most : s.least ≤ 1000000
  pub start_in : s.start < place_count s
  pub goal_in : s.goal < place_count s
  pub places_few : place_count s ≤ 4096

pub limits : (s : Shape) → in_limits s ≡ true → Limits s
limits s h =
    let wide_most : s.width ≤ 64 = grind (arith, nat_tests) in
    let high_most : s.height ≤ 64 = grind (arith, nat_tests) in
    record {
      wide = grind (arith, nat_tests);
      wide_most = wide_most;
      high = grind (arith, nat_tests);
      high_most = high_most;
      step = grind (arith, nat_tests);
      step_most = grind (arith, nat_tests);
      start_in = grind (arith, nat_tests);
      goal_in = grind (arith, nat_tests);
      places_few = mul-le s.width s.height 64 64 wide_most high_most;
    }

-- where a place of the lattice lies
pub column_in : (s : Shape) → 1 ≤ s.width → (p : ℕ) → p % s.width < s.width
column_in s w p = mod_below p s.width w

pub row_in : (s : Shape) → 1 ≤ s.width → (p : ℕ) → p < place_count s → p / s.width < s.height
row_in s w p h = div_below p s.width s.height w (omega arith)

-- what may be laid out
pub not_refused : (s : Shape) (room : ℕ) → layout_refusal s room ≡ None → (in_limits s ≡ true) × (link_count s ≤ room)
not_refused s room e = grind (arith, nat_tests)
