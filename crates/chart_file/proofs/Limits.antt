-- What follows where nothing is refused.
use Rattle.std.proofs.Common.{◌≡◌, ℕ, ◌+◌, ◌-◌, ◌*◌, ◌<◌, ◌≤◌, Bool, true, false, ◌&&◌, eqb, ltb, leb, Some, None, Option, refl, arith}
use Rattle.std.proofs.Math.Nat.{mul-le-mul_left}
use Rattle.std.proofs.lemmas.Bool.{and_parts, eqb-true, leb-true, ltb-true}
use Rattle.chart.specs.Refusals.{Refusal}
use Rattle.chart_file.specs.Checks.{at_link, in_limits, or_else, require}
use Rattle.chart_file.specs.declared.trailer.Trailer.{Trailer}

-- no refusal means that no part refuses
pub both_none : (a b : Option Refusal) → or_else a b ≡ None → (a ≡ None) × (b ≡ None)
both_none None b e = (refl, e)
both_none (Some r) b e = cc

pub required : (b : Bool) (r : Refusal) → require b r ≡ None → b ≡ true
required true r e = refl
required false r e = cc

pub unlinked : (by : ℕ) (o : Option ℕ) → at_link by o ≡ None → o ≡ None
unlinked by None e = refl
unlinked by (Some n) e = cc

-- the trailer's limits, as orders of numbers
pub record Within (t : Trailer) (bytes : ℕ) : Type 0 where
  pub some : 1 ≤ t.places
  pub few : t.places ≤ 4096
  pub links_few : t.links ≤ 16384
  pub start_in : t.start < t.places
  pub goal_in : t.goal < t.places
  pub fits : t.back ≡ 8 * t.places + 16 * t.links + 16
  pub inside : t.back ≤ bytes

pub within : (t : Trailer) (bytes : ℕ) → in_limits t bytes ≡ true → Within t bytes
within t bytes h =
    let counts = leb 1 t.places && leb t.places 4096 && leb t.links 16384 in
    let ends = ltb t.start t.places && ltb t.goal t.places in
    let fits = eqb t.back (8 * t.places + 16 * t.links + 16) && leb t.back bytes in
    let p = and_parts (counts && ends) fits h in
    let q = and_parts counts ends p.0 in
    let c = and_parts (leb 1 t.places && leb t.places 4096) (leb t.links 16384) q.0 in
    let d = and_parts (leb 1 t.places) (leb t.places 4096) c.0 in
    let e = and_parts (ltb t.start t.places) (ltb t.goal t.places) q.1 in
    let f = and_parts (eqb t.back (8 * t.places + 16 * t.links + 16)) (leb t.back bytes) p.1 in
    record {
      some = leb-true 1 t.places d.0;
      few = leb-true t.places 4096 d.1;
      links_few = leb-true t.links 16384 c.1;
      start_in = ltb-true t.start t.places e.0;
      goal_in = ltb-true t.goal t.places e.1;
      fits = eqb-true t.back (8 * t.places + 16 * t.links + 16) f.0;
      inside = leb-true t.back bytes f.1;
    }

-- a record of a table that ends before the trailer lies inside the file
pub lies_inside : (t : Trailer) (bytes offset size count n : ℕ) → in_limits t bytes ≡ true →
    offset + size * count ≤ 8 * t.places + 16 * t.links → n < count → offset + (bytes - t.back) + size * n + size ≤ bytes
lies_inside t bytes offset size count n h i l =
    let w = within t bytes h in omega (arith, w.fits, w.inside, mul-le-mul_left {m = n + 1} {n = count} size (omega arith))
