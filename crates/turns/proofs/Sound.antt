-- What holds of every state that a planner can come to: while it is not idle its bench is up to date with its chart and
-- its standings are within the bounds, and while it is firm it is settled.
use Rattle.std.proofs.Common.{◌≡◌, ℕ, ◌≤◌, true, eqb, List, [], ◌∷◌, length, Some, None, Option, sym, refl, ap, ◌∙◌, subst, arith}
use Rattle.rows.specs.Rows.{Price}
use Rattle.chart.specs.Lawful.{Lawful}
use Rattle.chart.specs.Meaning.{Meaning, places, priced}
use Rattle.chart.specs.Refusals.{Refusal, refusal}
use Rattle.lifelong.specs.Bounds.{Bounds}
use Rattle.lifelong.specs.Standings.{standing_at}
use Rattle.lifelong.specs.Step.{settled}
use Rattle.lifelong.proofs.Limits.{closed_within, priced_within}
use Rattle.lifelong.proofs.Repairs.{ends_settled, run_bounds}
use Rattle.lpa_star.specs.Memory.{Memory}
use Rattle.lpa_star.specs.UpToDate.{UpToDate}
use Rattle.std.specs.Option.{option_map}
use Rattle.turns.specs.History.{Came, Entry, Reachable, Taken, following, no_reason, wants_own}
use Rattle.turns.specs.State.{State, at_stage, firm, idle, loose, same_stage, showing}
use Rattle.turns.specs.Turned.{Begun, Passed, Priced, Repaired, Unless}
use Rattle.turns.specs.Turns.{Answer, Reason, Turn, begin, by_chart, end_firm, end_loose, precheck, price, repair, reopen, trace}
use Rattle.turns.proofs.Closed.{closed_at, closed_long}
use Rattle.turns.proofs.Follows.{goes_on, keeps_bench, stays}
use Rattle.turns.proofs.Priced.{priced_lawful}
use Rattle.turns.proofs.Stages.{firm_not_idle, long_enough, loose_not_idle, not_both, on_stage, on_stage_alone, unless_none}

pub record Working (s : State) : Type 0 where
  pub current : UpToDate s.chart s.bench
  pub bounds : Bounds s.chart s.bench.standings

pub record Sound (s : State) : Type 0 where
  pub lawful : Lawful s.chart
  pub working : (s.stage ≡ idle → ⊥) → Working s
  pub settles : s.stage ≡ firm → settled s.chart s.bench.standings ≡ true

-- a first hour
pub idle_sound : (s : State) → s.stage ≡ idle → Lawful s.chart → Sound s
idle_sound s e law = record { lawful = law; working = λ ne. absurd (ne e); settles = λ f. absurd (firm_not_idle s.stage f e) }

-- one lemma for each turn

begun_sound : (s t : State) (a : Answer) → Lawful s.chart → precheck s begin ≡ None → Begun s a t → Sound t
begun_sound s t a law e h =
    let m = s.chart in
    let long : places m ≤ length t.bench.standings = omega (arith, long_enough s (same_stage idle s.stage) e, ap length h.standings, closed_long (places m) s.bench.standings) in
    let b : Bounds m t.bench.standings = closed_within m t.bench.standings long
    (λ p l. ap (λ (gs : List Price). standing_at gs p) h.standings ∙ closed_at (places m) p s.bench.standings l) in
    record {
      lawful = subst Lawful (sym h.chart) law;
      working = λ _. record {
        current = subst (λ (z : Meaning). UpToDate z t.bench) (sym h.chart) h.current;
        bounds = subst (λ (z : Meaning). Bounds z t.bench.standings) (sym h.chart) b;
      };
      settles = λ f. absurd (not_both t.stage h.stage f);
    }

priced_sound : (s t : State) (n : ℕ) (p : Price) (a : Answer) → Sound s → s.stage ≡ loose → refusal s.chart n p ≡ None → Priced s n p a t → Sound t
priced_sound s t n p a h g e d =
    let w = h.working (loose_not_idle s.stage g) in
    let b : Bounds (priced s.chart n p) s.bench.standings = priced_within s.chart s.bench.standings n p w.bounds in
    record {
      lawful = subst Lawful (sym d.chart) (priced_lawful s.chart n p h.lawful e);
      working = λ _. record {
        current = d.current w.current;
        bounds = subst (λ (z : Meaning). Bounds z t.bench.standings) (sym d.chart)
            (subst (λ (gs : List Price). Bounds (priced s.chart n p) gs) (sym d.standings) b);
      };
      settles = λ f. absurd (not_both t.stage (d.stage ∙ g) f);
    }

repaired_sound : (s t : State) (a : Answer) → Sound s → s.stage ≡ loose → Repaired s a t → Sound t
repaired_sound s t a h g d =
    let w = h.working (loose_not_idle s.stage g) in
    let r = d.defined w.current in
    let m = s.chart in
    let gs = s.bench.standings in
    record {
      lawful = subst Lawful (sym d.chart) h.lawful;
      working = λ _. record {
        current = subst (λ (z : Meaning). UpToDate z t.bench) (sym d.chart) r.current;
        bounds = subst (λ (z : Meaning). Bounds z t.bench.standings) (sym d.chart)
            (subst (λ (hs : List Price). Bounds m hs) (sym r.standings) (run_bounds m h.lawful gs w.bounds _));
      };
      settles = λ _. (λ i. settled (d.chart i) (r.standings i)) ∙ ends_settled m h.lawful gs w.bounds;
    }

reopened_sound : (s : State) → Sound s → s.stage ≡ firm → Sound (at_stage loose s)
reopened_sound s h g =
    let w = h.working (firm_not_idle s.stage g) in
    record { lawful = h.lawful; working = λ _. record { current = w.current; bounds = w.bounds }; settles = λ f. absurd (not_both loose refl f) }

ended_sound : (s : State) → Sound s → Sound (at_stage idle s)
ended_sound s h = idle_sound (at_stage idle s) refl h.lawful

-- a turn past 10 and 9 on the state's own bench
priced_or_not : (s t : State) (n : ℕ) (p : Price) (a : Answer) (o : Option Refusal) → refusal s.chart n p ≡ o → Sound s → s.stage ≡ loose →
    Unless (option_map by_chart o) s a t (Priced s n p a t) → Sound t
priced_or_not s t n p a None e h g d = priced_sound s t n p a h g e d
priced_or_not s t n p a (Some r) e h g d = subst Sound (sym d.1) h

-- on a bench of its own, which is the one at hand
own_state : (b : State) (d : Memory) → d ≡ b.bench → showing d b ≡ b
own_state b d e = ap (λ (z : Memory). showing z b) e

passed_own : (b : State) (d : Memory) (u : Turn) (a : Answer) (t : State) → d ≡ b.bench → Passed (showing d b) u a t → Passed b u a t
passed_own b d u a t e h = subst (λ (z : State). Passed z u a t) (own_state b d e) h

prechecked_own : (b : State) (d : Memory) (u : Turn) → d ≡ b.bench → precheck (showing d b) u ≡ None → precheck b u ≡ None
prechecked_own b d u e h = subst (λ (z : State). precheck z u ≡ None) (own_state b d e) h

passed_sound : (b : State) (d : Memory) (u : Turn) (a : Answer) (t : State) → Sound b → precheck (showing d b) u ≡ None →
    (wants_own u ≡ true → d ≡ b.bench) → Passed (showing d b) u a t → Sound (following (record { before = b; shown = d; turn = u; answer = a; after = t }))
passed_sound b d begin a t h e own p =
    subst Sound (sym (goes_on b d begin a t refl e)) (begun_sound (showing d b) t a h.lawful e p)
passed_sound b d (price k n x) a t h e own p =
    let o = own refl in
    let g = on_stage loose b (eqb k b.number) (prechecked_own b d (price k n x) o e) in
    subst Sound (sym (goes_on b d (price k n x) a t refl e))
    (priced_or_not b t n x a (refusal b.chart n x) refl h g (passed_own b d (price k n x) a t o p))
passed_sound b d (repair k) a t h e own p =
    let o = own refl in
    let g = on_stage loose b (eqb k b.number) (prechecked_own b d (repair k) o e) in
    subst Sound (sym (goes_on b d (repair k) a t refl e)) (repaired_sound b t a h g (passed_own b d (repair k) a t o p))
passed_sound b d (trace k long) a t h e own p =
    let o = own refl in
    subst Sound (sym (goes_on b d (trace k long) a t refl e ∙ (passed_own b d (trace k long) a t o p).1)) h
passed_sound b d (reopen k) a t h e own p =
    let g = on_stage_alone firm b (eqb k b.number) e in
    subst Sound (sym (keeps_bench b d (reopen k) a t refl ∙ ap (showing b.bench) p.1)) (reopened_sound b h g)
passed_sound b d (end_loose k) a t h e own p =
    subst Sound (sym (keeps_bench b d (end_loose k) a t refl ∙ ap (showing b.bench) p.1)) (ended_sound b h)
passed_sound b d (end_firm k) a t h e own p =
    subst Sound (sym (keeps_bench b d (end_firm k) a t refl ∙ ap (showing b.bench) p.1)) (ended_sound b h)

turned_sound : (e : Entry) (o : Option Reason) → precheck (showing e.shown e.before) e.turn ≡ o → Taken e → Sound e.before → Sound (following e)
turned_sound e None f k h =
    passed_sound e.before e.shown e.turn e.answer e.after h f
    (λ w. k.own w (ap no_reason f))
    (unless_none _ (showing e.shown e.before) e.answer e.after _ f k.turned)
turned_sound e (Some r) f k h =
    let p = subst (λ (o : Option Reason). Unless o (showing e.shown e.before) e.answer e.after (Passed (showing e.shown e.before) e.turn e.answer e.after)) f k.turned in
    subst Sound (sym (stays e.before e.shown e.turn e.answer e.after r f p.1)) h

came_sound : (from : State) → Sound from → (es : List Entry) (s : State) → Came from es s → Sound s
came_sound from h [] s c = subst Sound (sym c) h
came_sound from h (e ∷ es) s c =
    subst Sound (sym c.2) (turned_sound e (precheck (showing e.shown e.before) e.turn) refl c.1 (came_sound from h es e.before c.0))

pub reachable_sound : (s : State) → Reachable s → Sound s
reachable_sound s r = came_sound r.from (idle_sound r.from r.first_hour r.lawful) r.turns s r.came
