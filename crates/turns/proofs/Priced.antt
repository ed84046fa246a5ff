-- A price that is not refused keeps the laws of a chart.
use Rattle.std.proofs.Common.{◌≡◌, ℕ, ◌<◌, ◌≤◌, Bool, true, false, cond, not, ◌||◌, eqb, length, get_or, set, Some, None, Option, sym, refl, ap, ◌∙◌, subst, ⊎_elim, arith, length-set}
use Rattle.std.proofs.lemmas.List.{get_or-set_other, get_or-set_same, set_past}
use Rattle.std.proofs.lemmas.Bool.{cases_eq, cases_lt, not-false, or_parts}
use Rattle.rows.specs.Rows.{Kind, Price, less, linkable}
use Rattle.chart.specs.Lawful.{Consistent, Lawful, LinkLaw}
use Rattle.chart.specs.Meaning.{Link, Meaning, link_at, priced, with_price}
use Rattle.chart.specs.Refusals.{refusal, refusal_at}

-- a test that would have refused did not hold
not_refused : {A : Type 0} (b : Bool) (x : A) (o : Option A) → cond b (Some x) o ≡ None → (b ≡ false) × (o ≡ None)
not_refused true x o e = let z : ◌≡◌ {A = ℕ} 0 1 = cc in absurd (omega arith)
not_refused false x o e = (refl, e)

module _ (m : Meaning) (n : ℕ) (p : Price) where
  -- at each number stands the link as it was, or at n the one with the new price
  at_number : (P : Option Link → Type 0) (k : ℕ) → (k ≡ n → P (with_price p (link_at m n))) → P (link_at m k) → P (link_at (priced m n p) k)
  at_number P k here there = ⊎_elim
      (λ (e : k ≡ n). ⊎_elim
      (λ (l : n < length m.links).
      subst P (sym (ap (λ (i : ℕ). get_or (set m.links n (with_price p (link_at m n))) i None) e
      ∙ get_or-set_same m.links n (with_price p (link_at m n)) None l)) (here e))
      (λ (l : length m.links ≤ n).
      subst P (sym (ap (λ ls. get_or ls k None) (set_past m.links n (with_price p (link_at m n)) l))) there)
      (cases_lt n (length m.links)))
      (λ (ne : k ≡ n → ⊥). subst P (sym (get_or-set_other m.links n k (with_price p (link_at m n)) None ne)) there)
      (cases_eq k n)

link_kept : (k : Kind) (count height n : ℕ) (p : Price) (o : Option Link) → refusal_at k o n p ≡ None →
    LinkLaw k count height o → LinkLaw k count height (with_price p o)
link_kept k count height n p None e law = tt
link_kept k count height n p (Some l) e law =
    let held = not_refused (not (eqb l.held 0)) _ _ e in
    let bad = not_refused (less p l.floor || not (linkable k p)) _ _ held.1 in
    let parts = or_parts (less p l.floor) (not (linkable k p)) bad.0 in
    record {
      from_in = law.from_in;
      to_in = law.to_in;
      apart = law.apart;
      floor_open = law.floor_open;
      floor_above = law.floor_above;
      floor_fits = law.floor_fits;
      price_above = parts.0;
      price_fits = not-false (linkable k p) parts.1;
      held_by = law.held_by;
    }

consistent_kept : (m : Meaning) (p : Price) (o : Option Link) → Consistent m o → Consistent m (with_price p o)
consistent_kept m p None c = tt
consistent_kept m p (Some l) c = c

pub priced_lawful : (m : Meaning) (n : ℕ) (p : Price) → Lawful m → refusal m n p ≡ None → Lawful (priced m n p)
priced_lawful m n p law e = record {
  some = law.some;
  measured = law.measured;
  places_few = law.places_few;
  start_in = law.start_in;
  goal_in = law.goal_in;
  links_few = omega (arith, law.links_few, length-set m.links n (with_price p (link_at m n)));
  height_low = law.height_low;
  links_law = λ k. at_number m n p (LinkLaw m.kind (length m.estimates) m.height) k
      (λ _. link_kept m.kind (length m.estimates) m.height n p (link_at m n) e (law.links_law n)) (law.links_law k);
  estimates_law = law.estimates_law;
  goal_zero = law.goal_zero;
  consistent = λ k. at_number m n p (Consistent m) k (λ _. consistent_kept m p (link_at m n) (law.consistent n)) (law.consistent k);
}
