-- Two charts that differ in one price are told apart.
use Rattle.std.proofs.Common.{◌≡◌, ℕ, zero, suc, ◌<◌, ◌≤◌, true, false, [], ◌∷◌, get_or, None, refl, arith}
use Rattle.std.proofs.lemmas.Bool.{both_ways}
use Rattle.rows.specs.Rows.{Price, closed}
use Rattle.chart.specs.Lawful.{Lawful}
use Rattle.chart.specs.Meaning.{Meaning, priced}
use Rattle.chart.specs.Refusals.{refusal}
use Rattle.chart.specs.Routes.{least_over}
use Rattle.lifelong.specs.Charts.{ms, three}
use Rattle.lifelong.specs.Standings.{key, lookahead, uneven}
use Rattle.lifelong.specs.Step.{next_below, settled, step}
use Rattle.lifelong.specs.Run.{repair as defined_repair, run}
use Rattle.lifelong.specs.Trace.{best_move, walk}
use Rattle.lifelong.proofs.Witness.{three_lawful}
use Rattle.lpa_star.specs.Closing.{closed_first}
use Rattle.lpa_star.specs.Memory.{EachOnce, Memory, Waiting, key_kept}
use Rattle.lpa_star.specs.UpToDate.{RightAt, UpToDate}
use Rattle.turns.specs.History.{Reachable}
use Rattle.turns.specs.Telling.{ComesTo, ToldApart, all_closed, begun, first, repaired, settled_at, straight}
use Rattle.turns.specs.Turned.{Turned, repair_answer}
use Rattle.turns.specs.Turns.{Answer, begin, gives_loose, plain, refused, repair, repairs, shows, trace}
use Rattle.turns.proofs.Carried.{carried, first_hour}
use Rattle.turns.proofs.Priced.{priced_lawful}

straight_lawful : (p : Price) → refusal (priced three 1 closed) 2 p ≡ None → Lawful (straight p)
straight_lawful p e = priced_lawful (priced three 1 closed) 2 p (priced_lawful three 1 closed three_lawful refl) e

-- an even place that is not queued, whatever key is kept of it
even_right : (m : Meaning) (d : Memory) (p : ℕ) → get_or d.lookaheads p closed ≡ lookahead m d.standings p →
    uneven m d.standings p ≡ false → (Waiting d p → ⊥) → RightAt m d p
even_right m d p look even out = record {
  look = look;
  queued = λ u. absurd (both_ways (uneven m d.standings p) even u);
  even = λ _. out;
  keyed = λ q. absurd (out q);
}

-- an uneven place that is queued under its key
queued_right : (m : Meaning) (d : Memory) (p : ℕ) → get_or d.lookaheads p closed ≡ lookahead m d.standings p →
    uneven m d.standings p ≡ true → Waiting d p → key_kept d.keys p ≡ key m d.standings p → RightAt m d p
queued_right m d p look odd waits k = record {
  look = look;
  queued = λ _. waits;
  even = λ e. absurd (both_ways (uneven m d.standings p) e odd);
  keyed = λ _. k;
}

-- after begin the start alone is queued
begun_right : (p : Price) (q : ℕ) → q < 3 → RightAt (straight p) (begun p).bench q
unfolding lookahead least_over uneven key
begun_right p zero l = queued_right (straight p) (begun p).bench 0 refl refl (omega arith, refl) refl
begun_right p (suc zero) l = even_right (straight p) (begun p).bench 1 refl refl (λ w. omega (arith, w.0))
begun_right p (suc (suc zero)) l = even_right (straight p) (begun p).bench 2 refl refl (λ w. omega (arith, w.0))
begun_right p (suc (suc (suc q))) l = absurd (omega arith)

begun_inside : (p : Price) (q : ℕ) → Waiting (begun p).bench q → q < 3
begun_inside p zero w = omega arith
begun_inside p (suc zero) w = omega arith
begun_inside p (suc (suc zero)) w = omega arith
begun_inside p (suc (suc (suc q))) w = absurd (omega (arith, w.1))

begun_current : (p : Price) → UpToDate (straight p) (begun p).bench
begun_current p = record { right = begun_right p; inside = begun_inside p; sorted = λ i k c l. absurd (omega (arith, c.0)) }

queued_once : (p : Price) → EachOnce (begun p).bench
queued_once p zero l = refl
queued_once p (suc k) l = absurd (omega arith)

beginning : (p : Price) → Turned (first p) begin (gives_loose 1) (begun p)
unfolding closed_first
beginning p = record {
  answer = refl;
  number = refl;
  stage = refl;
  chart = refl;
  bench_number = refl;
  standings = refl;
  current = begun_current p;
  once = queued_once p;
  past = record { standings = refl; lookaheads = refl; keys = refl; slots = refl; indexes = refl };
}

-- after the repair none is
nobody : (p : Price) (q : ℕ) → Waiting (repaired p).bench q → ⊥
nobody p q w = omega (arith, w.0)

-- all is even, if the goal is
repaired_right : (p : Price) → RightAt (straight p) (repaired p).bench 2 → (q : ℕ) → q < 3 → RightAt (straight p) (repaired p).bench q
unfolding lookahead least_over uneven
repaired_right p goal zero l = even_right (straight p) (repaired p).bench 0 refl refl (nobody p 0)
repaired_right p goal (suc zero) l = even_right (straight p) (repaired p).bench 1 refl refl (nobody p 1)
repaired_right p goal (suc (suc zero)) l = goal
repaired_right p goal (suc (suc (suc q))) l = absurd (omega arith)

repairing : (p : Price) (n : ℕ) → n ≤ 6 → RightAt (straight p) (repaired p).bench 2 →
    repairs 1 p n ≡ repair_answer (begun p) → settled_at p ≡ (defined_repair (straight p) all_closed).left →
    Turned (begun p) (repair 1) (repairs 1 p n) (repaired p)
repairing p n few goal answer left = record {
  answer = (refl, refl, few, refl);
  number = refl;
  chart = refl;
  bench_number = refl;
  bench_size = refl;
  once = λ k l. absurd (omega arith);
  defined = λ _. record {
    answer = answer;
    standings = left;
    current = record { right = repaired_right p goal; inside = λ q w. absurd (nobody p q w); sorted = λ i k c l. absurd (omega arith) };
    past = record { standings = refl; lookaheads = refl; keys = refl; slots = refl; indexes = refl };
  };
}

repaired_open : Turned (begun (ms 9)) (repair 1) (repairs 1 (ms 9) 3) (repaired (ms 9))
unfolding run settled next_below uneven key lookahead least_over step
repaired_open = repairing (ms 9) 3 (omega arith) (even_right (straight (ms 9)) (repaired (ms 9)).bench 2 refl refl (nobody (ms 9) 2)) refl refl

repaired_closed : Turned (begun closed) (repair 1) (repairs 1 closed 2) (repaired closed)
unfolding run settled next_below uneven key lookahead least_over step
repaired_closed = repairing closed 2 (omega arith) (even_right (straight closed) (repaired closed).bench 2 refl refl (nobody closed 2)) refl refl

-- a planner comes there by the turns it takes
comes_to : (p : Price) (n : ℕ) (a : Answer) → refusal (priced three 1 closed) 2 p ≡ None →
    Turned (begun p) (repair 1) (repairs 1 p n) (repaired p) → Turned (repaired p) (trace 1 3) a (repaired p) → ComesTo p n a
comes_to p n a e r t =
    let l : Reachable (begun p) = carried (first p) begin (gives_loose 1) (begun p) (first_hour (first p) refl (straight_lawful p e)) (beginning p) in
    record {
      to_loose = l;
      to_firm = carried (begun p) (repair 1) (repairs 1 p n) (repaired p) l r;
      repairing = r;
      tracing = t;
    }

pub told_apart : ToldApart
unfolding walk best_move
told_apart = record {
  one_price = refl;
  with_route = comes_to (ms 9) 3 (shows 2 (0 ∷ 2 ∷ [])) refl repaired_open (refl, refl);
  without = comes_to closed 2 (refused (plain 12)) refl repaired_closed (refl, refl);
  distances_differ = λ e. let z : ◌≡◌ {A = ℕ} 0 1 = cc in omega arith;
}
