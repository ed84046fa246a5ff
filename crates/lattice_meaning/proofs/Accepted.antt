-- A price that is not refused, and the numbers after it is written.
use Rattle.std.proofs.Common.{◌≡◌, ℕ, ◌<◌, ◌≤◌, Bool, true, false, ◌&&◌, ◌||◌, eqb, leb, List, [], ◌∷◌, length, get_or, set, Some, None, Option, sym, refl, ap, ◌∙◌, ⊎_elim, arith}
use Rattle.std.proofs.lemmas.List.{get_or-set_other, get_or-set_same, length-set}
use Rattle.std.proofs.lemmas.Bool.Decides.{nat_tests}
use Rattle.std.proofs.lemmas.Bool.{cases_eq, cases_lt}
use Rattle.rows.specs.Rows.{Price, closed, less, linkable, open_at}
use Rattle.price.specs.Kinds.{time_kind}
use Rattle.chart.specs.Meaning.{Link, priced}
use Rattle.chart.specs.Refusals.{refusal, refusal_at}
use Rattle.lattice_meaning.specs.Prices.{Counted, Priced, Unlinked, lattice, link_to, number_of, price_of, time}
use Rattle.lattice_meaning.specs.Shape.{Shape, leads_to}
use Rattle.lattice_meaning.proofs.Table.{link_is, link_past}
use Rattle.lattice_meaning.proofs.Written.{set_priced}

-- a link of the table, and a price that it may have
pub record Accepted (s : Shape) (numbers : List ℕ) (n : ℕ) (p : Price) : Type 0 where
  pub in_table : n < length numbers
  pub linked : leads_to s n ≡ None → ⊥
  pub above : less p (time s.least) ≡ false
  pub fits : linkable time_kind p ≡ true

module _ (s : Shape) (numbers : List ℕ) (n : ℕ) (p : Price) where
  accepted_at : (o : Option ℕ) → leads_to s n ≡ o → n < length numbers → refusal_at time_kind (link_to s n (get_or numbers n 0) o) n p ≡ None → Accepted s numbers n p
  accepted_at None h l e = cc
  accepted_at (Some to) h l e = record {
    in_table = l;
    linked = λ none. cc;
    above = grind (arith, nat_tests);
    fits = grind (arith, nat_tests);
  }

  pub accepted : refusal (lattice s numbers) n p ≡ None → Accepted s numbers n p
  accepted e = ⊎_elim
      (λ (l : n < length numbers). accepted_at (leads_to s n) refl l (ap (λ (o : Option Link). refusal_at time_kind o n p) (sym (link_is s numbers n l)) ∙ e))
      (λ (l : length numbers ≤ n). absurd (nowhere (ap (λ (o : Option Link). refusal_at time_kind o n p) (sym (link_past s numbers n l)) ∙ e)))
      (cases_lt n (length numbers))
    where
      nowhere : refusal_at time_kind None n p ≡ None → ⊥
      nowhere e = cc

-- the number that it is written as, and read as again
pub record NumberFor (least : ℕ) (p : Price) : Type 0 where
  pub reads : price_of (number_of p) ≡ p
  pub in_range : (eqb (number_of p) 0 || (leb least (number_of p) && leb (number_of p) 1000000)) ≡ true

number_for : (least : ℕ) → 1 ≤ least → (p : Price) → less p (time least) ≡ false → linkable time_kind p ≡ true → NumberFor least p
number_for least l closed above fits = record { reads = refl; in_range = refl }
number_for least l (open_at []) above fits = cc
number_for least l (open_at (ms ∷ [])) above fits = record { reads = grind (arith, nat_tests); in_range = grind (arith, nat_tests) }
number_for least l (open_at (ms ∷ x ∷ more)) above fits = absurd (grind (arith, nat_tests))

-- the numbers after the price of one link was written keep the rules
pub record Repriced (s : Shape) (numbers : List ℕ) (n : ℕ) (p : Price) : Type 0 where
  pub counted : Counted s (set numbers n (number_of p))
  pub in_range : Priced s (set numbers n (number_of p))
  pub unlinked : Unlinked s (set numbers n (number_of p))
  pub means : lattice s (set numbers n (number_of p)) ≡ priced (lattice s numbers) n p

pub repriced : (s : Shape) (numbers : List ℕ) (n : ℕ) (p : Price) → 1 ≤ s.least → Counted s numbers → Priced s numbers → Unlinked s numbers →
    refusal (lattice s numbers) n p ≡ None → Repriced s numbers n p
repriced s numbers n p least count ruled none e =
    let a = accepted s numbers n p e in
    let v = number_of p in
    let w = number_for s.least least p a.above a.fits in
    let long = length-set numbers n v in
    record {
      counted = omega (arith, long);
      in_range = λ k l. ⊎_elim
          (λ (same : k ≡ n). ap InRange (at_same k same a.in_table) ∙ w.in_range)
          (λ (other : k ≡ n → ⊥). ap InRange (get_or-set_other numbers n k v 0 other) ∙ ruled k (omega (arith, long))) (cases_eq k n);
      unlinked = λ k l h. ⊎_elim
          (λ (same : k ≡ n). absurd (a.linked (ap (leads_to s) (sym same) ∙ h)))
          (λ (other : k ≡ n → ⊥). get_or-set_other numbers n k v 0 other ∙ none k (omega (arith, long)) h) (cases_eq k n);
      means = set_priced s numbers n v a.in_table ∙ ap (priced (lattice s numbers) n) w.reads;
    }
  where
    InRange : ℕ → Bool
    InRange v = eqb v 0 || (leb s.least v && leb v 1000000)

    at_same : (k : ℕ) → k ≡ n → n < length numbers → get_or (set numbers n (number_of p)) k 0 ≡ number_of p
    at_same k same l = ap (λ (j : ℕ). get_or (set numbers n (number_of p)) j 0) same ∙ get_or-set_same numbers n (number_of p) 0 l
