-- The promises, from what holds of every state that a planner can come to.
use Rattle.std.proofs.Common.{◌≡◌, ℕ, Bool, true, false, cond, eqb, leb, ◌⊎◌, List, length, None, sym, ap, ◌∙◌, subst, inl, inr, ⊎_elim, arith}
use Rattle.std.proofs.lemmas.Bool.{cases_Bool, cond-false, cond-true, le-leb, lt-leb}
use Rattle.rows.specs.Rows.{Price, is_open}
use Rattle.chart.specs.Lawful.{Lawful}
use Rattle.chart.specs.Meaning.{Meaning}
use Rattle.chart.specs.Routes.{NoRoute}
use Rattle.lifelong.specs.Bounds.{Bounds}
use Rattle.lifelong.specs.Run.{repair as defined_repair}
use Rattle.lifelong.specs.Shown.{Cheapest}
use Rattle.lifelong.specs.Standings.{standing_at}
use Rattle.lifelong.specs.Step.{settled}
use Rattle.lifelong.specs.Trace.{Traced, none, shows as shows_places, trace as defined_trace}
use Rattle.lifelong.proofs.Repairs.{at_most_twice, ends_settled, run_bounds, true_not_expanded}
use Rattle.lifelong.proofs.Traces.{none_no_route, one_trace, settled_distance, shows_cheapest}
use Rattle.turns.specs.History.{Reachable}
use Rattle.turns.specs.Promises.{CheapestRoute, Promises, RepairPromises, SameFound, ShownWithin, TracePromises}
use Rattle.turns.specs.State.{State, firm, loose}
use Rattle.turns.specs.Turned.{Turned, trace_answer}
use Rattle.turns.specs.Turns.{Answer, ends, gives_loose, plain, precheck, refused, repair, repairs, sets, short_buffer, shows, trace}
use Rattle.turns.proofs.Sound.{Sound, reachable_sound}
use Rattle.turns.proofs.Stages.{firm_not_idle, loose_not_idle, on_stage, unless_none}

repair_promised : (s : State) → Sound s → (k : ℕ) (a : Answer) (t : State) → precheck s (repair k) ≡ None → Turned s (repair k) a t → RepairPromises s a
repair_promised s h k a t e d =
    let m = s.chart in
    let gs = s.bench.standings in
    let w = h.working (loose_not_idle s.stage (on_stage loose s (eqb k s.number) e)) in
    let r = (unless_none _ s a t _ e d).defined w.current in
    let done = ends_settled m h.lawful gs w.bounds in
    record {
      distance = standing_at (defined_repair m gs).left m.goal;
      steps = length (defined_repair m gs).steps;
      is_answered = r.answer ∙ cond-true (settled m (defined_repair m gs).left) _ _ done;
      repair_answers_the_true_distance = settled_distance m h.lawful (defined_repair m gs).left (run_bounds m h.lawful gs w.bounds _) done;
      no_place_is_expanded_more_than_twice = at_most_twice m h.lawful gs w.bounds (length (defined_repair m gs).steps);
      no_true_standing_is_expanded = true_not_expanded m h.lawful gs w.bounds (length (defined_repair m gs).steps);
    }

-- what a settled trace finds: none, or a cheapest route
abbrev Found : Meaning → Traced → Type 0
Found m o = (NoRoute m × (o ≡ none)) ⊎ ((ps : List ℕ) × CheapestRoute m ps × (o ≡ shows_places ps))

cheapest : (m : Meaning) (gs : List Price) (ps : List ℕ) → Cheapest m gs ps → CheapestRoute m ps
cheapest m gs ps c = record {
  price = standing_at gs m.goal;
  what_is_shown_is_a_route = c.route;
  as_places = c.as_places;
  its_price_is_the_true_distance = c.distance;
  no_route_costs_less = c.least;
}

found : (m : Meaning) → Lawful m → (gs : List Price) → Bounds m gs → settled m gs ≡ true → Found m (defined_trace m gs)
found m law gs b t = ⊎_elim
    (λ (o : is_open (standing_at gs m.goal) ≡ true).
    let c = shows_cheapest m law gs b t o in inr (c.0, cheapest m gs c.0 c.1, c.1.shown))
    (λ (o : is_open (standing_at gs m.goal) ≡ false).
    let e : defined_trace m gs ≡ none = cond-false (is_open (standing_at gs m.goal)) _ none o in
    inl ((none_no_route m law gs b t).0 e, e))
    (cases_Bool (is_open (standing_at gs m.goal)))

within : (long : ℕ) (a : Answer) (ps : List ℕ) → a ≡ trace_answer (shows_places ps) long → ShownWithin long a ps
within long a ps e = record {
  fits = λ l. e ∙ cond-true (leb (length ps) long) _ _ (le-leb (length ps) long l);
  too_long = λ l. e ∙ cond-false (leb (length ps) long) _ _ (lt-leb (length ps) long l);
}

-- the number by which an answer refuses
number_of : Answer → ℕ
number_of (refused r) = r.by
number_of (gives_loose k) = 0
number_of sets = 0
number_of (repairs k d n) = 0
number_of (shows n ps) = 0
number_of ends = 0

-- a route is not refused by 12
shown_not_12 : (b : Bool) (n : ℕ) (ps : List ℕ) → cond b (shows n ps) (refused (short_buffer n)) ≡ refused (plain 12) → ⊥
unfolding number_of
shown_not_12 true n ps e = let z : ◌≡◌ {A = ℕ} 0 12 = ap number_of e in omega arith
shown_not_12 false n ps e = let z : ◌≡◌ {A = ℕ} 13 12 = ap number_of e in omega arith

-- where a route stands, one is found
no_route_or : (m : Meaning) (ps : List ℕ) → CheapestRoute m ps → NoRoute m → ⊥
no_route_or m ps c n = n ps c.price c.what_is_shown_is_a_route

-- a state at which a trace passes 10 and 9
module _ (s : State) (h : Sound s) (k long : ℕ) (e : precheck s (trace k long) ≡ None) where
  traces_firm : s.stage ≡ firm
  traces_firm = on_stage firm s (eqb k s.number) e

  traces_bounds : Bounds s.chart s.bench.standings
  traces_bounds = (h.working (firm_not_idle s.stage traces_firm)).bounds

  traces_settled : settled s.chart s.bench.standings ≡ true
  traces_settled = h.settles traces_firm

  traces_answer : (a : Answer) (t : State) → Turned s (trace k long) a t → a ≡ trace_answer (defined_trace s.chart s.bench.standings) long
  traces_answer a t d = (unless_none _ s a t _ e d).0

-- over one chart all settled traces find the same
same_trace : (s t : State) → Sound s → Sound t → t.chart ≡ s.chart → (k long j wide : ℕ) → precheck s (trace k long) ≡ None → precheck t (trace j wide) ≡ None →
    defined_trace t.chart t.bench.standings ≡ defined_trace s.chart s.bench.standings
same_trace s t h g c k long j wide e f =
    let m = s.chart in
    let hs = t.bench.standings in
    ap (λ (z : Meaning). defined_trace z hs) c
    ∙ one_trace m h.lawful hs s.bench.standings
    (subst (λ (z : Meaning). Bounds z hs) c (traces_bounds t g j wide f))
    (traces_bounds s h k long e)
    (subst (λ (z : Meaning). settled z hs ≡ true) c (traces_settled t g j wide f))
    (traces_settled s h k long e)

same_found : (m : Meaning) (o : Traced) → Found m o → (long : ℕ) (a : Answer) (wide : ℕ) (b : Answer) → a ≡ trace_answer o long → b ≡ trace_answer o wide → SameFound m long a wide b
same_found m o (inl f) long a wide b ea eb =
    inl (f.0, ea ∙ ap (λ (z : Traced). trace_answer z long) f.1, eb ∙ ap (λ (z : Traced). trace_answer z wide) f.1)
same_found m o (inr f) long a wide b ea eb =
    inr (f.0, f.1, within long a f.0 (ea ∙ ap (λ (z : Traced). trace_answer z long) f.2), within wide b f.0 (eb ∙ ap (λ (z : Traced). trace_answer z wide) f.2))

told_none : (m : Meaning) (o : Traced) → Found m o → (long : ℕ) (a : Answer) → a ≡ trace_answer o long →
    (a ≡ refused (plain 12) → NoRoute m) × (NoRoute m → a ≡ refused (plain 12))
told_none m o (inl f) long a e = (λ _. f.0, λ _. e ∙ ap (λ (z : Traced). trace_answer z long) f.1)
told_none m o (inr f) long a e = (
  λ z. absurd (shown_not_12 (leb (length f.0) long) (length f.0) f.0 (sym (e ∙ ap (λ (z : Traced). trace_answer z long) f.2) ∙ z)),
  λ n. absurd (no_route_or m f.0 f.1 n),
)

told_route : (m : Meaning) (o : Traced) → Found m o → (long : ℕ) (a : Answer) → a ≡ trace_answer o long →
    (NoRoute m → ⊥) → (ps : List ℕ) × CheapestRoute m ps × ShownWithin long a ps
told_route m o (inl f) long a e n = absurd (n f.0)
told_route m o (inr f) long a e n = (f.0, f.1, within long a f.0 (e ∙ ap (λ (z : Traced). trace_answer z long) f.2))

trace_promised : (s : State) → Sound s → (k long : ℕ) (a : Answer) (t : State) → precheck s (trace k long) ≡ None → Turned s (trace k long) a t → TracePromises s long a
trace_promised s h k long a t e d =
    let m = s.chart in
    let o = defined_trace m s.bench.standings in
    let f = found m h.lawful s.bench.standings (traces_bounds s h k long e) (traces_settled s h k long e) in
    let ea = traces_answer s h k long e a t d in
    record {
      none_is_told_exactly_when_no_route_stands = told_none m o f long a ea;
      the_cheapest_route_is_shown = told_route m o f long a ea;
      equal_charts_show_equal_routes = λ u r c j wide b v p q.
          let g = reachable_sound u r in
          same_found m o f long a wide b ea
          (traces_answer u g j wide p b v q ∙ ap (λ (z : Traced). trace_answer z wide) (same_trace s u h g c k long j wide e p));
    }

pub promised : (s : State) → Reachable s → Promises s
promised s r = (repair_promised s (reachable_sound s r), trace_promised s (reachable_sound s r))
