-- A lattice whose numbers keep the rules is a lawful chart.
use Rattle.std.proofs.Common.{◌≡◌, ℕ, ◌+◌, ◌*◌, ◌%◌, ◌<◌, ◌≤◌, true, false, ◌&&◌, ◌||◌, eqb, leb, List, [], ◌∷◌, length, get_or, Some, None, Option, sym, refl, ap, ◌∙◌, subst, mul-zero, arith, lit≤}
use Rattle.std.proofs.lemmas.Nat.{mod_below}
use Rattle.std.proofs.lemmas.Bool.Decides.{nat_tests}
use Rattle.rows.specs.Rows.{capped, less, linkable, sum, zero_of}
use Rattle.price.specs.Kinds.{time_kind}
use Rattle.chart.specs.Lawful.{Consistent, EstimateLaw, Lawful, LinkLaw}
use Rattle.lattice_meaning.specs.Directions.{direction, links_per_place}
use Rattle.lattice_meaning.specs.Prices.{Counted, Priced, distance, estimate, lattice, link_to, price_of, time}
use Rattle.lattice_meaning.specs.Shape.{Shape, in_limits, leads_from, leads_to, place_count}
use Rattle.lattice_meaning.proofs.Cells.{Neighbours, neighbours}
use Rattle.lattice_meaning.proofs.Limits.{Limits, limits}
use Rattle.lattice_meaning.proofs.Steps.{estimate_most, least_nearer, not_same, one_step}
use Rattle.lattice_meaning.proofs.Table.{each_link, estimate_is, estimates_long, links_long}

-- a time that is not below another
capped_not_less : (a b : ℕ) → b ≤ a → less (capped time_kind (a ∷ [])) (time b) ≡ false
capped_not_less a b l = grind (arith, nat_tests)

zero_less : (a : ℕ) → 1 ≤ a → less (zero_of time_kind) (time a) ≡ true
zero_less a l = grind (arith, nat_tests)

fits : (a : ℕ) → a ≤ 1000000 → linkable time_kind (time a) ≡ true
fits a l = grind (arith, nat_tests)

-- a number that keeps the rules is a price
priced_above : (least v : ℕ) → (eqb v 0 || (leb least v && leb v 1000000)) ≡ true → less (price_of v) (time least) ≡ false
priced_above least v h = grind (arith, nat_tests)

priced_fits : (least v : ℕ) → (eqb v 0 || (leb least v && leb v 1000000)) ≡ true → linkable time_kind (price_of v) ≡ true
priced_fits least v h = grind (arith, nat_tests)

module _ (s : Shape) (numbers : List ℕ) (lim : Limits s) (count : Counted s numbers) (ruled : Priced s numbers) where
  joined : (n q : ℕ) → leads_to s n ≡ Some q → Neighbours s (direction (n % links_per_place)) (leads_from n) q
  joined n q = neighbours s lim.wide (direction (n % links_per_place)) (leads_from n) q

  lawful_link : (n : ℕ) → n < length numbers → (o : Option ℕ) → leads_to s n ≡ o → LinkLaw time_kind (length (lattice s numbers).estimates) 0 (link_to s n (get_or numbers n 0) o)
  lawful_link n l None e = tt
  lawful_link n l (Some q) e =
      let near = joined n q e in
      let long = estimates_long s in
      record {
        from_in = omega (arith, long, near.from_in);
        to_in = omega (arith, long, near.to_in);
        apart = not_same s (direction (n % links_per_place)) (leads_from n) q (one_step (n % links_per_place) (mod_below n links_per_place (omega arith))) near;
        floor_open = refl;
        floor_above = zero_less s.least lim.step;
        floor_fits = fits s.least lim.step_most;
        price_above = priced_above s.least (get_or numbers n 0) (ruled n l);
        price_fits = priced_fits s.least (get_or numbers n 0) (ruled n l);
        held_by = omega arith;
      }

  consistent_link : (n : ℕ) → (o : Option ℕ) → leads_to s n ≡ o → Consistent (lattice s numbers) (link_to s n (get_or numbers n 0) o)
  consistent_link n None e = tt
  consistent_link n (Some q) e =
      let near = joined n q e in
      (λ i. less (sum time_kind (time s.least) (estimate_is s q near.to_in i)) (estimate_is s (leads_from n) near.from_in i))
      ∙ capped_not_less (s.least + s.least * distance s q) (s.least * distance s (leads_from n))
      (least_nearer s (direction (n % links_per_place)) (leads_from n) q (one_step (n % links_per_place) (mod_below n links_per_place (omega arith))) near)

  room : (p : ℕ) → p < place_count s → EstimateLaw time_kind (estimate s p)
  room p l = (omega (arith, estimate_most s lim p l), tt)

  goal_zero : estimate s s.goal ≡ zero_of time_kind
  goal_zero =
      let none : distance s s.goal ≡ 0 = omega arith in
      ap (λ (n : ℕ). time (s.least * n)) none ∙ ap time (mul-zero s.least)

  lawful : Lawful (lattice s numbers)
  lawful = record {
    some = lit≤ tt;
    measured = refl;
    places_few = omega (arith, estimates_long s, lim.places_few);
    start_in = omega (arith, estimates_long s, lim.start_in);
    goal_in = omega (arith, estimates_long s, lim.goal_in);
    links_few = omega (arith, links_long s numbers, count, lim.places_few);
    height_low = omega arith;
    links_law = each_link s numbers (LinkLaw time_kind (length (lattice s numbers).estimates) 0) tt (λ n l. lawful_link n l (leads_to s n) refl);
    estimates_law = λ p l. let q : p < place_count s = omega (arith, estimates_long s) in
        subst (EstimateLaw time_kind) (sym (estimate_is s p q)) (room p q);
    goal_zero = estimate_is s s.goal lim.goal_in ∙ goal_zero;
    consistent = each_link s numbers (Consistent (lattice s numbers)) tt (λ n l. consistent_link n (leads_to s n) refl);
  }

pub lattice_lawful : (s : Shape) (numbers : List ℕ) → in_limits s ≡ true → Counted s numbers → Priced s numbers → Lawful (lattice s numbers)
lattice_lawful s numbers h count ruled = lawful s numbers (limits s h) count ruled
