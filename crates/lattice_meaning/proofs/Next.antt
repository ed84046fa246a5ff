-- The link numbers out of a place and into it are those of the directions.
use Rattle.std.proofs.Common.{◌≡◌, ℕ, ◌+◌, ◌*◌, ◌%◌, ◌<◌, ◌≤◌, Bool, true, false, List, length, get_or, Some, None, Option, sym, refl, ap, ◌∙◌, ⊎_elim, arith}
use Rattle.std.proofs.lemmas.Bool.{both_ways, cases_lt, eq-eqb, eqb-true}
use Rattle.std.proofs.lemmas.Bool.Decides.{nat_tests}
use Rattle.std.specs.Option.{option_map}
use Rattle.chart.specs.declared.end.End.{End}
use Rattle.chart.specs.declared.end.End.TheVariants.{From, To}
use Rattle.chart.specs.Meaning.{Link}
use Rattle.chart.specs.Questions.{Next, leads_at, leads_into, leads_out}
use Rattle.lattice_meaning.specs.Directions.{back, direction, links_per_place, turned}
use Rattle.lattice_meaning.specs.Numbers.{counted, link_from, lowest_of, number_at, number_from}
use Rattle.lattice_meaning.specs.Prices.{link_to, links}
use Rattle.lattice_meaning.specs.Shape.{Shape, in_limits, leads_from, leads_to, neighbour}
use Rattle.lattice_meaning.proofs.Cells.{neighbour_is, neighbours, neighbours_few, neighbours_turned}
use Rattle.lattice_meaning.proofs.Limits.{Limits, limits}
use Rattle.lattice_meaning.proofs.Lowest.{AllThatPass, next_lowest}
use Rattle.lattice_meaning.proofs.Steps.{back_turned}
use Rattle.lattice_meaning.proofs.Table.{link_is, link_past, links_long}

counted_is : (count n : ℕ) → n < count → counted count n ≡ Some n
counted_is count n l = grind (arith, nat_tests)

-- a number that is answered is one of the table, from the place that was found
some_from : (count d n : ℕ) (o : Option ℕ) → number_from count d o ≡ Some n → (from : ℕ) × (o ≡ Some from) × (n < count) × (links_per_place * from + d ≡ n)
some_from count d n None e = cc
some_from count d n (Some from) e =
    (from, refl, grind (arith, nat_tests), grind (arith, nat_tests))

-- and there is a neighbour that it leads to
some_to : (p q : ℕ) (o : Option ℕ) → option_map (λ (to : ℕ). p) o ≡ Some q → (to : ℕ) × (o ≡ Some to) × (p ≡ q)
some_to p q None e = cc
some_to p q (Some to) e = (to, refl, cc)

-- the place and the direction of a link number
of_place : (p d n : ℕ) → d < links_per_place → links_per_place * p + d ≡ n → leads_from n ≡ p
of_place p d n l e = omega arith

of_direction : (p d n : ℕ) → d < links_per_place → links_per_place * p + d ≡ n → n % links_per_place ≡ d
of_direction p d n l e = omega arith

module _ (s : Shape) (lim : Limits s) where
  -- a neighbour the other way
  turned_is : (d p q : ℕ) → d < links_per_place → neighbour s (direction d) p ≡ Some q → neighbour s (direction (back d)) q ≡ Some p
  turned_is d p q l e =
      ap (λ t. neighbour s t q) (sym (back_turned d l))
      ∙ neighbour_is s lim.wide (turned (direction d)) q p (neighbours_turned s (direction d) p q (neighbours s lim.wide (direction d) p q e))

  turned_back : (d p q : ℕ) → d < links_per_place → neighbour s (direction (back d)) q ≡ Some p → neighbour s (direction d) p ≡ Some q
  turned_back d p q l e =
      neighbour_is s lim.wide (direction d) p q (neighbours_turned s (turned (direction d)) q p
      (neighbours s lim.wide (turned (direction d)) q p (ap (λ t. neighbour s t q) (back_turned d l) ∙ e)))

  leads_is : (d p q n : ℕ) → d < links_per_place → links_per_place * p + d ≡ n → neighbour s (direction d) p ≡ Some q → leads_to s n ≡ Some q
  leads_is d p q n l e h = (λ i. neighbour s (direction (of_direction p d n l e i)) (of_place p d n l e i)) ∙ h

  module _ (numbers : List ℕ) where
    -- what passes a test that fails where there is no link is a link of the table
    pub passing : (test : Option Link → Bool) → test None ≡ false → (j : ℕ) → test (get_or (links s numbers) j None) ≡ true →
        (j < length numbers) × ((q : ℕ) × (leads_to s j ≡ Some q) × (test (link_to s j (get_or numbers j 0) (Some q)) ≡ true))
    passing test none j e = ⊎_elim
        (λ (l : j < length numbers). (l, go (leads_to s j) refl (ap test (sym (link_is s numbers j l)) ∙ e)))
        (λ (l : length numbers ≤ j). absurd (both_ways (test None) none (ap test (sym (link_past s numbers j l)) ∙ e))) (cases_lt j (length numbers))
      where
        go : (o : Option ℕ) → leads_to s j ≡ o → test (link_to s j (get_or numbers j 0) o) ≡ true → (q : ℕ) × (leads_to s j ≡ Some q) × (test (link_to s j (get_or numbers j 0) (Some q)) ≡ true)
        go None h t = absurd (both_ways (test None) none t)
        go (Some q) h t = (q, h, t)

    -- a link of the table that leads somewhere
    linked : (n q : ℕ) → n < length numbers → leads_to s n ≡ Some q → get_or (links s numbers) n None ≡ link_to s n (get_or numbers n 0) (Some q)
    linked n q l e = link_is s numbers n l ∙ ap (link_to s n (get_or numbers n 0)) e

    out_passes : (p : ℕ) → AllThatPass (leads_out p) (links s numbers) (number_at From s (length numbers) p) links_per_place
    out_passes p = record {
      passes = λ d n l e.
          let a = some_from (length numbers) d n (option_map (λ to. p) (neighbour s (direction d) p)) e in
          let t = some_to p a.0 (neighbour s (direction d) p) a.1 in
          let whole : links_per_place * p + d ≡ n = omega arith in
          let to = leads_is d p t.0 n l whole t.1 in
          (omega (arith, links_long s numbers), ap (leads_out p) (linked n t.0 a.2 to) ∙ eq-eqb (leads_from n) p (of_place p d n l whole));
      all = λ j e.
          let a = passing (leads_out p) refl j e in
          let from = eqb-true (leads_from j) p a.1.2 in
          let d = j % links_per_place in
          let whole : links_per_place * p + d ≡ j = omega arith in (
            d,
            omega arith,
            ap (λ (o : Option ℕ). number_from (length numbers) d (option_map (λ (to : ℕ). p) o)) (ap (neighbour s (direction d)) (sym from) ∙ a.1.1)
                ∙ ap (counted (length numbers)) whole ∙ counted_is (length numbers) j a.0,
          );
    }

    into_passes : (p : ℕ) → AllThatPass (leads_into p) (links s numbers) (number_at To s (length numbers) p) links_per_place
    into_passes p = record {
      passes = λ d n l e.
          let a = some_from (length numbers) d n (neighbour s (direction (back d)) p) e in
          let to = leads_is d a.0 p n l a.3 (turned_back d a.0 p l a.1) in
          (omega (arith, links_long s numbers), ap (leads_into p) (linked n p a.2 to) ∙ eq-eqb p p refl);
      all = λ j e.
          let a = passing (leads_into p) refl j e in
          let to = eqb-true a.1.0 p a.1.2 in
          let d = j % links_per_place in
          let whole : links_per_place * leads_from j + d ≡ j = omega arith in
          let here : neighbour s (direction d) (leads_from j) ≡ Some p = a.1.1 ∙ ap Some to in (
            d,
            omega arith,
            ap (number_from (length numbers) d) (turned_is d (leads_from j) p (omega arith) here)
                ∙ ap (counted (length numbers)) whole ∙ counted_is (length numbers) j a.0,
          );
    }

pub next_at : (e : End) (s : Shape) (numbers : List ℕ) → in_limits s ≡ true → (p k : ℕ) →
    Next (leads_at e p) (links s numbers) k (lowest_of k (number_at e s (length numbers) p) links_per_place)
next_at From s numbers h p k = next_lowest (leads_out p) (links s numbers) (number_at From s (length numbers) p) links_per_place (out_passes s (limits s h) numbers p) k
next_at To s numbers h p k = next_lowest (leads_into p) (links s numbers) (number_at To s (length numbers) p) links_per_place (into_passes s (limits s h) numbers p) k

-- the place that a link leads from is one of few
pub from_few : (e : End) (s : Shape) → in_limits s ≡ true → (p d from : ℕ) (o : Option ℕ) → o ≡ link_from e s p d → o ≡ Some from → from < 4096
from_few From s h p d from o e some =
    let t = some_to p from (neighbour s (direction d) p) (sym e ∙ some) in
    let few = neighbours_few s h (direction d) p t.0 t.1 in
    omega (arith, t.2)
from_few To s h p d from o e some = (neighbours_few s h (direction (back d)) p from (sym e ∙ some)).1
