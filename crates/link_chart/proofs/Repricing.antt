-- A link record with another price: the rules still hold, and the chart means the same but for that price.
use Rattle.std.proofs.Common.{◌≡◌, ℕ, zero, suc, ◌<◌, ◌≤◌, Bool, true, false, cond, not, ◌&&◌, ◌||◌, eqb, ltb, List, [], ◌∷◌, map, length, get_or, take, set, Some, None, Option, sym, refl, ap, ◌∙◌, subst, ⊎_elim, arith}
use Rattle.std.proofs.lemmas.List.{get_or-set_other, get_or-set_same, get_or-take, length-set, length-take-le, map-set}
use Rattle.std.proofs.lemmas.Bool.{and_from, and_parts, both_ways, cases_Bool, cases_eq, cases_lt, cond-false, eqb-true, not_from_false, not-false, or_parts}
use Rattle.chart.specs.Meaning.{Link, priced, with_price}
use Rattle.chart.specs.Refusals.{Refusal, refusal_at}
use Rattle.chart_file.specs.Records.{estimate_of, floor_of, keeps_estimate, keeps_rules, lifts_ms, link_in, link_of, no_link, place_in, price_of, records_mean}
use Rattle.chart_file.specs.declared.records.LinkRecord.{LinkRecord}
use Rattle.chart_file.specs.declared.records.PlaceRecord.{PlaceRecord}
use Rattle.link_chart.specs.Tables.{table_of}
use Rattle.link_chart.specs.Repriced.{repriced}
use Rattle.chart_file.specs.Rules.{Estimated, Ruled, Rules}
use Rattle.link_chart.proofs.Tables.{table_at, table_past}
use Rattle.price.specs.Kinds.{lift_kind, lift_value}
use Rattle.price.specs.declared.lift.Lift.{Lift}
use Rattle.price.specs.declared.lift.Lift.TheVariants as lift
use Rattle.rows.specs.Rows.{Price, closed, less, linkable, zero_of}

-- lists

take_set : {X : Type 0} (count n : ℕ) (xs : List X) (a : X) → n < count → take count (set xs n a) ≡ set (take count xs) n a
take_set zero n xs a l = absurd (omega arith)
take_set (suc count) n [] a l = refl
take_set (suc count) zero (x ∷ xs) a l = refl
take_set (suc count) (suc n) (x ∷ xs) a l = ap (λ r. x ∷ r) (take_set count n xs a (omega arith))

-- what a price that is not refused says

not_both : (p : Price) (f : Price) → (less p f || not (linkable lift_kind p)) ≡ false → (less p f ≡ false) × (linkable lift_kind p ≡ true)
not_both p f h = let q = or_parts (less p f) (not (linkable lift_kind p)) h in (q.0, not-false (linkable lift_kind p) q.1)

none_test : (b : Bool) (r : Refusal) → None ≡ cond b (Some r) None → b ≡ false
none_test true r e = cc
none_test false r e = refl

module _ (ls : List LinkRecord) (count n : ℕ) (room : count ≤ length ls) (p : Price)
    (accepted : None ≡ refusal_at lift_kind (get_or (table_of (take count ls)) n None) n p) where
  pub inside : n < count
  inside = ⊎_elim (λ (l : n < count). l)
      (λ (l : count ≤ n). let e = accepted ∙ ap (λ (o : Option Link). refusal_at lift_kind o n p) (table_past ls count n room l) in
      cc) (cases_lt n count)

  pub allowed : (less p (floor_of (get_or ls n no_link)) ≡ false) × (linkable lift_kind p ≡ true)
  allowed = not_both p (floor_of (get_or ls n no_link))
      (none_test (less p (floor_of (get_or ls n no_link)) || not (linkable lift_kind p)) (record { by = 8; link = Some n; height = 0 })
      (accepted ∙ ap (λ (o : Option Link). refusal_at lift_kind o n p) (table_at ls count n room inside)))

-- the record has the price

zero_both : (a b : ℕ) → (eqb a 0 && eqb b 0) ≡ true → lifts_ms a b ≡ zero_of lift_kind
zero_both a b h = let q = and_parts (eqb a 0) (eqb b 0) h in
    let x = eqb-true a 0 q.0 in
    let y = eqb-true b 0 q.1 in
    λ i. lifts_ms (x i) (y i)

pub repriced_has : (r : LinkRecord) (v : Lift) → less (zero_of lift_kind) (floor_of r) ≡ true → less (lift_value v) (floor_of r) ≡ false → price_of (repriced r (lift_value v)) ≡ lift_value v
repriced_has r lift.Closed f h = refl
repriced_has r (lift.Open a b) f h =
    cond-false (eqb a.value 0 && eqb b.value 0) closed (lifts_ms a.value b.value)
    (⊎_elim
    (λ (t : (eqb a.value 0 && eqb b.value 0) ≡ true). absurd (both_ways (less (zero_of lift_kind) (floor_of r))
    (sym (ap (λ (q : Price). less q (floor_of r)) (zero_both a.value b.value t)) ∙ h) f))
    (λ (t : (eqb a.value 0 && eqb b.value 0) ≡ false). t)
    (cases_Bool (eqb a.value 0 && eqb b.value 0)))

-- the rules, at the record and at the others

module _ (places : ℕ) (r : LinkRecord) (v : Lift) (kept : keeps_rules places r ≡ true)
    (ok : (less (lift_value v) (floor_of r) ≡ false) × (linkable lift_kind (lift_value v) ≡ true)) where
  ends : Bool
  ends = ltb r.from places && ltb r.to places && not (eqb r.from r.to)

  floored : Bool
  floored = less (zero_of lift_kind) (floor_of r) && linkable lift_kind (floor_of r)

  parts : ((ends && floored) ≡ true) × ((linkable lift_kind (price_of r) && not (less (price_of r) (floor_of r))) ≡ true)
  unfolding ends floored
  parts = and_parts (ends && floored) (linkable lift_kind (price_of r) && not (less (price_of r) (floor_of r))) kept

  pub has_price : price_of (repriced r (lift_value v)) ≡ lift_value v
  unfolding ends floored
  has_price = repriced_has r v (and_parts (less (zero_of lift_kind) (floor_of r)) (linkable lift_kind (floor_of r)) (and_parts ends floored parts.0).1).0 ok.0

  pub rules_repriced : keeps_rules places (repriced r (lift_value v)) ≡ true
  unfolding ends floored
  rules_repriced = and_from (ends && floored) (linkable lift_kind (price_of (repriced r (lift_value v))) && not (less (price_of (repriced r (lift_value v))) (floor_of r))) parts.0
      (subst (λ (q : Price). (linkable lift_kind q && not (less q (floor_of r))) ≡ true) (sym has_price)
      (and_from (linkable lift_kind (lift_value v)) (not (less (lift_value v) (floor_of r))) ok.1 (not_from_false (less (lift_value v) (floor_of r)) ok.0)))

-- the whole table

-- link records in memory, as many as a chart counts, beside its place records
pub record Kept (start goal : ℕ) (ps : List PlaceRecord) (count : ℕ) (ls : List LinkRecord) : Type 0 where
  pub room : count ≤ length ls
  pub rules : Rules start goal ps (take count ls)

module _ (start goal : ℕ) (ps : List PlaceRecord) (ls : List LinkRecord) (count n : ℕ) (room : count ≤ length ls) (v : Lift)
    (accepted : None ≡ refusal_at lift_kind (get_or (table_of (take count ls)) n None) n (lift_value v))
    (R : Rules start goal ps (take count ls)) where
  here : n < count
  here = inside ls count n room (lift_value v) accepted

  old_at : (k : ℕ) → k < count → link_in (take count ls) k ≡ get_or ls k no_link
  old_at k l = get_or-take count ls k no_link l

  long : length (take count ls) ≡ count
  long = length-take-le count ls room

  room_after : count ≤ length (set ls n (repriced (get_or ls n no_link) (lift_value v)))
  room_after = let e = length-set ls n (repriced (get_or ls n no_link) (lift_value v)) in omega arith

  length_after : length (take count (set ls n (repriced (get_or ls n no_link) (lift_value v)))) ≡ length (take count ls)
  length_after = length-take-le count (set ls n (repriced (get_or ls n no_link) (lift_value v))) room_after ∙ sym long

  -- what holds of the new record, and of the others as they were, holds of each
  each : (P : LinkRecord → Type 0) → P (repriced (get_or ls n no_link) (lift_value v)) → ((k : ℕ) → k < length (take count ls) → P (link_in (take count ls) k)) →
      (k : ℕ) → k < length (take count (set ls n (repriced (get_or ls n no_link) (lift_value v)))) → P (link_in (take count (set ls n (repriced (get_or ls n no_link) (lift_value v)))) k)
  each P fresh others k l =
      let a = repriced (get_or ls n no_link) (lift_value v) in
      let lt : k < count = omega (arith, length_after, long) in
      let n_in : n < length ls = omega (arith, here) in
      ⊎_elim
      (λ (e : k ≡ n). subst P (sym (get_or-take count (set ls n a) k no_link lt ∙ ap (λ (j : ℕ). get_or (set ls n a) j no_link) e ∙ get_or-set_same ls n a no_link n_in)) fresh)
      (λ (d : k ≡ n → ⊥). subst P (sym (get_or-take count (set ls n a) k no_link lt ∙ get_or-set_other ls n k a no_link d ∙ sym (old_at k lt))) (others k (omega (arith, long))))
      (cases_eq k n)

  kept_here : keeps_rules (length ps) (get_or ls n no_link) ≡ true
  kept_here = sym (ap (keeps_rules (length ps)) (old_at n here)) ∙ R.ruled n (omega (arith, here, long))

  permitted : (less (lift_value v) (floor_of (get_or ls n no_link)) ≡ false) × (linkable lift_kind (lift_value v) ≡ true)
  permitted = allowed ls count n room (lift_value v) accepted

  ruled_after : Ruled ps (take count (set ls n (repriced (get_or ls n no_link) (lift_value v))))
  ruled_after = each (λ (r : LinkRecord). keeps_rules (length ps) r ≡ true) (rules_repriced (length ps) (get_or ls n no_link) v kept_here permitted) R.ruled

  estimated_after : Estimated ps (take count (set ls n (repriced (get_or ls n no_link) (lift_value v))))
  estimated_after =
      let holds : LinkRecord → Type 0 = λ r. keeps_estimate (estimate_of (place_in ps r.from)) (estimate_of (place_in ps r.to)) r ≡ true in
      let old : holds (get_or ls n no_link) = subst holds (old_at n here) (R.estimated n (omega (arith, here, long))) in
      each holds old R.estimated

  pub kept : Kept start goal ps count (set ls n (repriced (get_or ls n no_link) (lift_value v)))
  kept = record {
    room = room_after;
    rules = record {
      places_few = R.places_few;
      start_in = R.start_in;
      goal_in = R.goal_in;
      links_few = omega (arith, length_after, R.links_few);
      small = R.small;
      ruled = ruled_after;
      goal_zero = R.goal_zero;
      estimated = estimated_after;
    };
  }

  pub priced_after : records_mean start goal ps (take count (set ls n (repriced (get_or ls n no_link) (lift_value v)))) ≡ priced (records_mean start goal ps (take count ls)) n (lift_value v)
  priced_after =
      let a = repriced (get_or ls n no_link) (lift_value v) in
      let told : Some (link_of a) ≡ with_price (lift_value v) (get_or (table_of (take count ls)) n None) =
      (λ i. Some (record { from = (get_or ls n no_link).from; to = (get_or ls n no_link).to; floor = floor_of (get_or ls n no_link); price = has_price (length ps) (get_or ls n no_link) v kept_here permitted i; held = 0 }))
      ∙ ap (with_price (lift_value v)) (sym (table_at ls count n room here)) in
      let links : table_of (take count (set ls n a)) ≡ set (table_of (take count ls)) n (with_price (lift_value v) (get_or (table_of (take count ls)) n None)) =
      ap table_of (take_set count n ls a here) ∙ map-set (λ (r : LinkRecord). Some (link_of r)) (take count ls) n a ∙ ap (set (table_of (take count ls)) n) told in
      λ i. record { kind = lift_kind; start = start; goal = goal; height = 0; links = links i; estimates = map estimate_of ps }
