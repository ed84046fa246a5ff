-- The tables of a lattice by index.
use Rattle.std.proofs.Common.{◌≡◌, ℕ, ◌<◌, ◌≤◌, List, length, get_or, Some, None, Option, sym, ap, ◌∙◌, subst, ⊎_elim, arith}
use Rattle.std.proofs.lemmas.List.FromFn.{get_or-map-range_with_len, length-map-range_with_len}
use Rattle.std.proofs.lemmas.List.{get_or_past}
use Rattle.std.proofs.lemmas.Option.{slice_get-get_or, slice_get_past}
use Rattle.std.specs.List.{slice_get}
use Rattle.std.proofs.lemmas.Bool.{cases_lt}
use Rattle.rows.specs.Rows.{closed}
use Rattle.chart.specs.Meaning.{Link}
use Rattle.lattice_meaning.specs.Prices.{estimate, estimates, link_named, link_to, links}
use Rattle.lattice_meaning.specs.Shape.{Shape, leads_to, place_count}

pub estimates_long : (s : Shape) → length (estimates s) ≡ place_count s
estimates_long s = length-map-range_with_len (estimate s) 0 (place_count s)

pub estimate_is : (s : Shape) (p : ℕ) → p < place_count s → get_or (estimates s) p closed ≡ estimate s p
estimate_is s p l = get_or-map-range_with_len (estimate s) 0 (place_count s) p p closed l (omega arith)

pub estimate_nth : (s : Shape) (p : ℕ) → p < place_count s → slice_get (estimates s) p ≡ Some (estimate s p)
estimate_nth s p l = slice_get-get_or (estimates s) p closed (omega (arith, estimates_long s)) ∙ ap Some (estimate_is s p l)

pub estimate_past : (s : Shape) (p : ℕ) → place_count s ≤ p → slice_get (estimates s) p ≡ None
estimate_past s p l = slice_get_past (estimates s) p (omega (arith, estimates_long s))

module _ (s : Shape) (numbers : List ℕ) where
  pub links_long : length (links s numbers) ≡ length numbers
  links_long = length-map-range_with_len (link_named s numbers) 0 (length numbers)

  pub link_is : (n : ℕ) → n < length numbers → get_or (links s numbers) n None ≡ link_named s numbers n
  link_is n l = get_or-map-range_with_len (link_named s numbers) 0 (length numbers) n n None l (omega arith)

  pub link_past : (n : ℕ) → length numbers ≤ n → get_or (links s numbers) n None ≡ None
  link_past n l = get_or_past (links s numbers) n None (omega (arith, links_long))

  pub named_is : (n : ℕ) (o : Option ℕ) → n < length numbers → o ≡ leads_to s n → link_to s n (get_or numbers n 0) o ≡ get_or (links s numbers) n None
  named_is n o l e = ap (link_to s n (get_or numbers n 0)) e ∙ sym (link_is n l)

  -- what holds of a number of the table, and where there is no link, holds of each number
  pub each_link : (P : Option Link → Type 0) → P None → ((n : ℕ) → n < length numbers → P (link_named s numbers n)) → (n : ℕ) → P (get_or (links s numbers) n None)
  each_link P none some n = ⊎_elim
      (λ (l : n < length numbers). subst P (sym (link_is n l)) (some n l))
      (λ (l : length numbers ≤ n). subst P (sym (link_past n l)) none) (cases_lt n (length numbers))
