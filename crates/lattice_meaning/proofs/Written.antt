-- Numbers that are written: the first prices, and one price that is set.
use Rattle.std.proofs.Common.{◌≡◌, ℕ, ◌+◌, ◌<◌, ◌≤◌, Bool, true, ◌&&◌, ◌||◌, eqb, leb, List, [], ◌∷◌, ◌++◌, map, length, get_or, take, drop, set, Some, None, Option, sym, refl, ap, ◌∙◌, subst, ⊎_elim, append_assoc, append-nil, arith}
use Rattle.std.specs.List.{range_with_len}
use Rattle.std.proofs.lemmas.List.FromFn.{get_or-map-range_with_len, length-map-range_with_len, map-range_with_len_more}
use Rattle.std.proofs.lemmas.List.{drop_all, drop_more, ext_get_or, get_or-set_other, get_or-set_same, length-set, set_at, take_at}
use Rattle.std.proofs.lemmas.Bool.Decides.{nat_tests}
use Rattle.std.proofs.lemmas.Bool.{cases_eq}
use Rattle.chart.specs.Meaning.{Link, link_at, priced, with_price}
use Rattle.price.specs.Kinds.{time_kind}
use Rattle.lattice_meaning.specs.Prices.{estimates, first_price, first_price_to, first_prices, lattice, link_named, link_to, links, price_of}
use Rattle.lattice_meaning.specs.Shape.{Shape, in_limits, leads_to, link_count}
use Rattle.lattice_meaning.specs.Theorems.{FirstPricesRuled}
use Rattle.lattice_meaning.proofs.Limits.{limits}
use Rattle.lattice_meaning.proofs.Table.{link_is, links_long}

abbrev in_range : ℕ → ℕ → Bool
in_range least v = eqb v 0 || (leb least v && leb v 1000000)

first_in_range : (s : Shape) → s.least ≤ 1000000 → (o : Option ℕ) → in_range s.least (first_price_to s o) ≡ true
first_in_range s l None = refl
first_in_range s l (Some q) = grind (arith, nat_tests)

pub first_long : (s : Shape) → length (first_prices s) ≡ link_count s
first_long s = length-map-range_with_len (first_price s) 0 (link_count s)

first_is : (s : Shape) (n : ℕ) → n < length (first_prices s) → get_or (first_prices s) n 0 ≡ first_price s n
first_is s n l = get_or-map-range_with_len (first_price s) 0 (link_count s) n n 0 (omega (arith, first_long s)) (omega arith)

pub first_ruled : (s : Shape) → in_limits s ≡ true → FirstPricesRuled s
first_ruled s h = record {
  counted = omega (arith, first_long s);
  priced = λ n l. ap (in_range s.least) (first_is s n l) ∙ first_in_range s (limits s h).step_most (leads_to s n);
  unlinked = λ n l none. first_is s n l ∙ ap (first_price_to s) none;
}

-- a loop that writes the first prices
pub written_more : (s : Shape) (before : List ℕ) (n : ℕ) → n < length before →
    set (map (first_price s) (range_with_len 0 n) ++ drop n before) n (first_price s n) ≡ map (first_price s) (range_with_len 0 (n + 1)) ++ drop (n + 1) before
written_more s before n l =
    let f = first_price s in
    ap (λ (r : List ℕ). set (map f (range_with_len 0 n) ++ r) n (f n)) (drop_more before n (f n) l)
    ∙ set_at (map f (range_with_len 0 n)) _ (drop (n + 1) before) (f n) n (length-map-range_with_len f 0 n)
    ∙ sym (append_assoc (map f (range_with_len 0 n)) (f n ∷ []) (drop (n + 1) before))
    ∙ ap (λ (r : List ℕ). r ++ drop (n + 1) before) (sym (map-range_with_len_more f 0 n n (omega arith)))

pub written_all : (s : Shape) (before now : List ℕ) (n : ℕ) → n ≡ link_count s → length before ≤ n →
    now ≡ map (first_price s) (range_with_len 0 n) ++ drop n before → now ≡ first_prices s
written_all s before now n same l e =
    e ∙ (λ i. map (first_price s) (range_with_len 0 (same i)) ++ drop_all n before l i) ∙ append-nil (first_prices s)

-- the numbers in use after that
pub written_front : (s : Shape) (before after : List ℕ) (count : ℕ) → count ≡ link_count s → after ≡ first_prices s ++ drop (link_count s) before →
    take count after ≡ first_prices s
written_front s before after count same e =
    (λ i. take (same i) (e i)) ∙ take_at (first_prices s) (drop (link_count s) before) (link_count s) (first_long s)

repriced : (s : Shape) (n v x : ℕ) (o : Option ℕ) → link_to s n v o ≡ with_price (price_of v) (link_to s n x o)
repriced s n v x None = refl
repriced s n v x (Some to) = refl

module _ (s : Shape) (numbers : List ℕ) (n v : ℕ) (l : n < length numbers) where
  abbrev new : Option Link
  new = with_price (price_of v) (link_at (lattice s numbers) n)

  set_long : length (set numbers n v) ≡ length numbers
  set_long = length-set numbers n v

  links_alike : length (links s (set numbers n v)) ≡ length (set (links s numbers) n new)
  links_alike = links_long s (set numbers n v) ∙ set_long ∙ sym (links_long s numbers)
      ∙ sym (length-set (links s numbers) n new)

  abbrev Alike : ℕ → Type 0
  Alike k = link_named s (set numbers n v) k ≡ get_or (set (links s numbers) n new) k None

  link_alike : (k : ℕ) → k < length numbers → Alike k
  link_alike k h = ⊎_elim
      (λ (e : k ≡ n). subst Alike (sym e)
      (ap (λ (x : ℕ). link_to s n x (leads_to s n)) (get_or-set_same numbers n v 0 l)
      ∙ repriced s n v (get_or numbers n 0) (leads_to s n)
      ∙ sym (ap (with_price (price_of v)) (link_is s numbers n l))
      ∙ sym (get_or-set_same (links s numbers) n new None (omega (arith, links_long s numbers)))))
      (λ (e : k ≡ n → ⊥).
      ap (λ (x : ℕ). link_to s k x (leads_to s k)) (get_or-set_other numbers n k v 0 e)
      ∙ sym (link_is s numbers k h) ∙ sym (get_or-set_other (links s numbers) n k new None e))
      (cases_eq k n)

  set_links : links s (set numbers n v) ≡ set (links s numbers) n new
  set_links = ext_get_or None (links s (set numbers n v)) (set (links s numbers) n new) links_alike
      (λ k h.
      let here : k < length numbers = omega (arith, links_long s (set numbers n v), set_long) in
      link_is s (set numbers n v) k (omega (arith, set_long)) ∙ link_alike k here)

pub set_priced : (s : Shape) (numbers : List ℕ) (n v : ℕ) → n < length numbers → lattice s (set numbers n v) ≡ priced (lattice s numbers) n (price_of v)
set_priced s numbers n v l = λ i. record {
  kind = time_kind;
  start = s.start;
  goal = s.goal;
  height = 0;
  links = set_links s numbers n v l i;
  estimates = estimates s;
}
