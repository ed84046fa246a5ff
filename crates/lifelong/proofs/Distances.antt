-- Every place has a true distance: a repair finds it, with the place as the goal and estimates of zero.
use Rattle.std.proofs.Common.{◌≡◌, ℕ, zero, suc, ◌*◌, ◌<◌, ◌≤◌, List, [], ◌∷◌, length, replicate, Some, None, Option, sym, refl, ap, ◌∙◌, subst, inl, inr, ⊎_elim, arith}
use Rattle.std.proofs.lemmas.List.{get_or-replicate, length-replicate}
use Rattle.std.proofs.lemmas.Bool.{cases_lt}
use Rattle.rows.specs.Rows.{Price, closed, less, open_at, sum, zero_of}
use Rattle.rows.proofs.Order.{less_one_way}
use Rattle.rows.proofs.Sums.{sum_comm, sum_zero}
use Rattle.chart.specs.Lawful.{Consistent, EstimateLaw, Lawful, LinkLaw, Room}
use Rattle.chart.specs.Meaning.{Link, Meaning, estimate_at, link_at, places}
use Rattle.chart.specs.Routes.{Chain, TrueDistance, begin, more}
use Rattle.chart.proofs.Chains.{chain_in, distance_by}
use Rattle.chart.proofs.Limits.{floor_proper, link_law}
use Rattle.lifelong.specs.Standings.{standing_at}
use Rattle.lifelong.specs.Run.{repair}
use Rattle.lifelong.specs.Bounds.{Bounds}
use Rattle.lifelong.specs.Theorems.{SomeDistance}
use Rattle.lifelong.proofs.Limits.{closed_within}
use Rattle.lifelong.proofs.Repairs.{ends_settled, run_bounds}
use Rattle.lifelong.proofs.Traces.{settled_distance}

room_zero : (c : ℕ) (ls es : List ℕ) (n : ℕ) → length ls ≡ n → Room c ls es → Room c ls (replicate n 0)
room_zero c [] [] zero e r = tt
room_zero c [] [] (suc n) e r = absurd (omega arith)
room_zero c [] (x ∷ es) n e r = absurd r
room_zero c (l ∷ ls) [] n e r = absurd r
room_zero c (l ∷ ls) (x ∷ es) zero e r = absurd (omega arith)
room_zero c (l ∷ ls) (x ∷ es) (suc n) e r = (omega (arith, r.0), room_zero c ls es n (omega arith) r.1)

module _ (m : Meaning) (law : Lawful m) (x : ℕ) (inside : x < places m) where
  abbrev toward : Meaning
  toward = record { kind = m.kind; start = m.start; goal = x; height = m.height; links = m.links; estimates = replicate (places m) (zero_of m.kind) }

  same_places : places toward ≡ places m
  same_places = length-replicate (places m) (zero_of m.kind)

  zero_estimate : (p : ℕ) → p < places m → estimate_at toward p ≡ zero_of m.kind
  zero_estimate p l = get_or-replicate (places m) p (zero_of m.kind) closed l

  room : (e : Price) → EstimateLaw m.kind e → EstimateLaw m.kind (zero_of m.kind)
  room closed r = absurd r
  room (open_at es) r = room_zero m.kind.ceiling m.kind.largest es m.kind.long law.measured r

  level : (n : ℕ) (o : Option Link) → link_at m n ≡ o → Consistent toward o
  level n None e = tt
  level n (Some l) e =
      let w = link_law m law n l e in
      (λ i. less (sum m.kind l.floor (zero_estimate l.to w.to_in i)) (zero_estimate l.from w.from_in i))
      ∙ ap (λ p. less p (zero_of m.kind)) (sum_comm m.kind l.floor (zero_of m.kind) ∙ sum_zero m.kind l.floor (floor_proper m law n l e))
      ∙ less_one_way (zero_of m.kind) l.floor w.floor_above

  toward_lawful : Lawful toward
  toward_lawful = record {
    some = law.some;
    measured = law.measured;
    places_few = omega (arith, same_places, law.places_few);
    start_in = omega (arith, same_places, law.start_in);
    goal_in = omega (arith, same_places, inside);
    links_few = law.links_few;
    height_low = law.height_low;
    links_law = λ n. subst (λ c. LinkLaw m.kind c m.height (link_at m n)) (sym same_places) (law.links_law n);
    estimates_law = λ p l. subst (EstimateLaw m.kind) (sym (zero_estimate p (omega (arith, same_places))))
        (room (estimate_at m m.start) (law.estimates_law m.start law.start_in));
    goal_zero = zero_estimate x inside;
    consistent = λ n. level n (link_at m n) refl;
  }

  -- chains are the same
  to_chain : {y : ℕ} {ps : List ℕ} {p : Price} → Chain toward y ps p → Chain m y ps p
  to_chain begin = begin
  to_chain (more n l e o c f) = more n l e o (to_chain c) f

  from_chain : {y : ℕ} {ps : List ℕ} {p : Price} → Chain m y ps p → Chain toward y ps p
  from_chain begin = begin
  from_chain (more n l e o c f) = more n l e o (from_chain c) f

  same_distance : (p : Price) → TrueDistance toward x p → TrueDistance m x p
  same_distance p d = record {
    least = λ ps q c. d.least ps q (from_chain c);
    met = ⊎_elim (λ (w : (ps : List ℕ) × Chain toward x ps p). inl (w.0, to_chain w.1))
        (λ (w : (p ≡ closed) × ((ps : List ℕ) (q : Price) → Chain toward x ps q → ⊥)). inr (w.0, λ ps q c. w.1 ps q (from_chain c))) d.met;
  }

  fresh : List Price
  fresh = replicate (places toward) closed

  fresh_bounds : Bounds toward fresh
  unfolding fresh
  fresh_bounds = closed_within toward (replicate (places toward) closed) (omega (arith, length-replicate (places toward) closed))
      (λ p l. get_or-replicate (places toward) p closed closed l)

  found : (p : Price) × TrueDistance m x p
  found =
      let left = (repair toward fresh).left in (
        standing_at left x,
        same_distance (standing_at left x)
            (settled_distance toward toward_lawful left (run_bounds toward toward_lawful fresh fresh_bounds (2 * places toward))
            (ends_settled toward toward_lawful fresh fresh_bounds)),
      )

pub some_distance : SomeDistance
some_distance m law x = ⊎_elim
    (λ (l : x < places m). found m law x l)
    (λ (l : places m ≤ x). (closed, distance_by m law x closed (λ ps q c. absurd (omega (arith, chain_in m law c))) (inr refl))) (cases_lt x (places m))
