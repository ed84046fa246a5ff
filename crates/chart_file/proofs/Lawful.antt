-- Records that keep the rules are a lawful chart.
use Rattle.std.proofs.Common.{◌≡◌, ℕ, ◌<◌, ◌≤◌, eqb, List, map, length, Some, None, Option, sym, refl, ◌∙◌, subst, ⊎_elim, arith, lit≤}
use Rattle.std.proofs.lemmas.List.{get_or-map, get_or_past, length-map}
use Rattle.std.proofs.lemmas.Bool.{and_parts, cases_lt, eqb-true, not-true}
use Rattle.rows.specs.Rows.{closed, less, sum, zero_of}
use Rattle.price.specs.Kinds.{lift_kind}
use Rattle.chart.specs.Lawful.{Consistent, EstimateLaw, Lawful, LawfulLink, LinkLaw}
use Rattle.chart.specs.Meaning.{Link, estimate_at, link_at}
use Rattle.chart_file.specs.Records.{link_in, no_link, no_place, place_in, estimate_of, floor_of, lifts_ms, link_of, records_mean}
use Rattle.chart_file.specs.declared.records.LinkRecord.{LinkRecord}
use Rattle.chart_file.specs.declared.records.PlaceRecord.{PlaceRecord}
use Rattle.chart_file.specs.Rules.{Rules}
use Rattle.chart_file.proofs.Ruled.{ruled}

module _ (start goal : ℕ) (ps : List PlaceRecord) (ls : List LinkRecord) (R : Rules start goal ps ls) where
  estimate_is : (p : ℕ) → p < length ps → estimate_at (records_mean start goal ps ls) p ≡ estimate_of (place_in ps p)
  estimate_is p l = get_or-map estimate_of ps p no_place closed l

  count_is : length (map estimate_of ps) ≡ length ps
  count_is = length-map ps estimate_of

  link_is : (n : ℕ) → n < length ls → link_at (records_mean start goal ps ls) n ≡ Some (link_of (link_in ls n))
  link_is n l = get_or-map (λ r. Some (link_of r)) ls n no_link None l

  link_none : (n : ℕ) → length ls ≤ n → link_at (records_mean start goal ps ls) n ≡ None
  link_none n l = get_or_past (map (λ r. Some (link_of r)) ls) n None (omega (arith, length-map ls (λ (r : LinkRecord). Some (link_of r))))

  law_at : (n : ℕ) → n < length ls → LawfulLink lift_kind (length ps) 0 (link_of (link_in ls n))
  law_at n l = ruled (length ps) (link_in ls n) (R.ruled n l)

  -- what holds of a record that is there, and where there is none, holds of each link number
  each : (P : Option Link → Type 0) → P None → ((n : ℕ) → n < length ls → P (Some (link_of (link_in ls n)))) → (n : ℕ) → P (link_at (records_mean start goal ps ls) n)
  each P none some n = ⊎_elim
      (λ (l : n < length ls). subst P (sym (link_is n l)) (some n l))
      (λ (l : length ls ≤ n). subst P (sym (link_none n l)) none) (cases_lt n (length ls))

  room : (p : ℕ) → p < length ps → EstimateLaw lift_kind (estimate_of (place_in ps p))
  room p l = let s = R.small p l in (omega arith, (omega arith, tt))

  zero : estimate_of (place_in ps goal) ≡ zero_of lift_kind
  zero =
      let z = and_parts (eqb (place_in ps goal).lifts 0) (eqb (place_in ps goal).ms 0) R.goal_zero in
      let a = eqb-true (place_in ps goal).lifts 0 z.0 in
      let b = eqb-true (place_in ps goal).ms 0 z.1 in
      λ i. lifts_ms (a i) (b i)

  consistent_at : (n : ℕ) → n < length ls → Consistent (records_mean start goal ps ls) (Some (link_of (link_in ls n)))
  consistent_at n l =
      let r = link_in ls n in
      let law = law_at n l in
      (λ i. less (sum lift_kind (floor_of r) (estimate_is r.to law.to_in i)) (estimate_is r.from law.from_in i))
      ∙ not-true (less (sum lift_kind (floor_of r) (estimate_of (place_in ps r.to))) (estimate_of (place_in ps r.from))) (R.estimated n l)

  pub records_lawful : Lawful (records_mean start goal ps ls)
  records_lawful = record {
    some = lit≤ tt;
    measured = refl;
    places_few = omega (arith, count_is, R.places_few);
    start_in = omega (arith, count_is, R.start_in);
    goal_in = omega (arith, count_is, R.goal_in);
    links_few = omega (arith, length-map ls (λ (r : LinkRecord). Some (link_of r)), R.links_few);
    height_low = omega arith;
    links_law = each (LinkLaw lift_kind (length (map estimate_of ps)) 0) tt
        (λ n l. subst (λ (c : ℕ). LawfulLink lift_kind c 0 (link_of (link_in ls n))) (sym count_is) (law_at n l));
    estimates_law = λ p l. let q : p < length ps = omega (arith, count_is) in
        subst (EstimateLaw lift_kind) (sym (estimate_is p q)) (room p q);
    goal_zero = estimate_is goal R.goal_in ∙ zero;
    consistent = each (Consistent (records_mean start goal ps ls)) tt consistent_at;
  }
