-- An answer depends only on what is asked, and on the standings of the places.
use Rattle.std.proofs.Common.{◌≡◌, ℕ, ◌*◌, ◌≤◌, Bool, true, cond, ◌&&◌, eqb, leb, List, length, Some, None, Option, sym, refl, ap, ◌∙◌, subst, arith}
use Rattle.rows.specs.Rows.{Price}
use Rattle.chart.specs.Lawful.{Lawful}
use Rattle.chart.specs.Meaning.{Meaning, places}
use Rattle.chart.specs.Refusals.{Refusal, refusal}
use Rattle.lifelong.specs.Run.{Run, repair as defined_repair, run}
use Rattle.lifelong.specs.Standings.{standing_at}
use Rattle.lifelong.specs.Step.{settled}
use Rattle.lifelong.specs.Theorems.{Agree}
use Rattle.lifelong.specs.Trace.{Traced, trace as defined_trace}
use Rattle.lifelong.proofs.Agreement.{step_long}
use Rattle.lifelong.proofs.Runs.{Ran, run_ran, spent, stops, stuck, takes}
use Rattle.lifelong.proofs.Unread.{past_unread}
use Rattle.lpa_star.specs.Memory.{size}
use Rattle.lpa_star.specs.UpToDate.{UpToDate}
use Rattle.std.specs.Option.{option_map}
use Rattle.turns.specs.Dependence.{Alike, SameAnswer, is_repair}
use Rattle.turns.specs.State.{Stage, State, firm, idle, loose, same_stage}
use Rattle.turns.specs.Turned.{Passed, Priced, Turned, Unless, repair_answer, trace_answer}
use Rattle.turns.specs.Turns.{Answer, Reason, Turn, begin, by_chart, end_firm, end_loose, gives_loose, in_turn, plain, precheck, price, refused, repair, repairs, reopen, trace, without_bench}
use Rattle.turns.proofs.Stages.{long_enough, unless_none}

-- a run leaves as many standings as there were
ran_long : {m : Meaning} {n : ℕ} {gs : List Price} {r : Run} → Ran m n gs r → length r.left ≡ length gs
ran_long spent = refl
ran_long (stops t) = refl
ran_long (stuck e) = refl
ran_long {m = m} {gs = gs} (takes p f e r) = ran_long r ∙ step_long m gs p

-- the answer of a repair over one chart
abbrev answer_of : ℕ → Meaning → List Price → Answer
answer_of k m gs = cond (settled m (defined_repair m gs).left)
    (repairs k (standing_at (defined_repair m gs).left m.goal) (length (defined_repair m gs).steps))
    (refused (plain 11))

repair_same : (k : ℕ) (m : Meaning) → Lawful m → (gs hs : List Price) → places m ≤ length gs → places m ≤ length hs → Agree m gs hs →
    answer_of k m gs ≡ answer_of k m hs
repair_same k m law gs hs lg lh a =
    let n = 2 * places m in
    let r = past_unread m law gs hs lg lh a in
    let left : Agree m (run m n gs).left (run m n hs).left = r.left_same n in
    let long = past_unread m law (run m n gs).left (run m n hs).left
    (omega (arith, ran_long (run_ran m n gs))) (omega (arith, ran_long (run_ran m n hs))) left in
    λ i. cond (long.settled_same i) (repairs k (left m.goal law.goal_in i) (length (r.run_same n i))) (refused (plain 11))

-- what 10 and 9 look at
abbrev tested : Bool → ℕ → ℕ → ℕ → ℕ → Option Reason
tested ok bench planner count long = cond (ok && eqb bench planner) (cond (leb count long) None (Some (plain 9))) (Some (plain 10))

module _ (s t : State) (h : Alike s t) where
  with_same : (f : Stage → ℕ → Bool) →
      tested (f s.stage s.number) s.bench.number s.number (places s.chart) (size s.bench)
      ≡ tested (f t.stage t.number) t.bench.number t.number (places t.chart) (size t.bench)
  with_same f = λ i. tested (f (h.stage i) (h.number i)) (h.bench_number i) (h.number i) (places (h.chart i)) (h.bench_size i)

  ticket_same : (g : Stage) (k : ℕ) → without_bench (same_stage g s.stage && eqb k s.number) ≡ without_bench (same_stage g t.stage && eqb k t.number)
  ticket_same g k = λ i. without_bench (same_stage g (h.stage i) && eqb k (h.number i))

  precheck_same : (u : Turn) → precheck s u ≡ precheck t u
  precheck_same begin = with_same (λ g _. same_stage idle g)
  precheck_same (price k n x) = with_same (λ g j. same_stage loose g && eqb k j)
  precheck_same (repair k) = with_same (λ g j. same_stage loose g && eqb k j)
  precheck_same (trace k long) = with_same (λ g j. same_stage firm g && eqb k j)
  precheck_same (reopen k) = ticket_same firm k
  precheck_same (end_loose k) = ticket_same loose k
  precheck_same (end_firm k) = ticket_same firm k

  priced_same : (n : ℕ) (x : Price) (a b : Answer) (s' t' : State) (o : Option Refusal) →
      Unless (option_map by_chart o) s a s' (Priced s n x a s') → Unless (option_map by_chart o) t b t' (Priced t n x b t') → a ≡ b
  priced_same n x a b s' t' None p q = p.answer ∙ sym q.answer
  priced_same n x a b s' t' (Some r) p q = p.0 ∙ sym q.0

  module _ (law : Lawful s.chart) where
    repairs_same : places s.chart ≤ size s.bench → repair_answer s ≡ repair_answer t
    repairs_same l =
        repair_same s.number s.chart law s.bench.standings t.bench.standings l (omega (arith, h.bench_size)) h.standings
        ∙ (λ i. answer_of (h.number i) (h.chart i) t.bench.standings)

    traces_same : places s.chart ≤ size s.bench → defined_trace s.chart s.bench.standings ≡ defined_trace t.chart t.bench.standings
    traces_same l =
        (past_unread s.chart law s.bench.standings t.bench.standings l (omega (arith, h.bench_size)) h.standings).trace_same
        ∙ ap (λ (z : Meaning). defined_trace z t.bench.standings) h.chart

    module _ (a b : Answer) (s' t' : State) where
      abbrev Current : Turn → Type 0
      Current u = is_repair u ≡ true → UpToDate s.chart s.bench × UpToDate t.chart t.bench

      passed_same : (u : Turn) → Current u → precheck s u ≡ None → Passed s u a s' → Passed t u b t' → a ≡ b
      passed_same begin c e p q = p.answer ∙ ap gives_loose h.number ∙ sym q.answer
      passed_same (price k n x) c e p q = priced_same n x a b s' t' (refusal s.chart n x) p
          (subst (λ (z : Meaning). Unless (option_map by_chart (refusal z n x)) t b t' (Priced t n x b t')) (sym h.chart) q)
      passed_same (repair k) c e p q =
          (p.defined (c refl).0).answer ∙ repairs_same (long_enough s (in_turn s (repair k)) e) ∙ sym (q.defined (c refl).1).answer
      passed_same (trace k long) c e p q =
          p.0 ∙ ap (λ (z : Traced). trace_answer z long) (traces_same (long_enough s (in_turn s (trace k long)) e)) ∙ sym q.0
      passed_same (reopen k) c e p q = p.0 ∙ ap gives_loose h.number ∙ sym q.0
      passed_same (end_loose k) c e p q = p.0 ∙ sym q.0
      passed_same (end_firm k) c e p q = p.0 ∙ sym q.0

      turned_same : (u : Turn) → Current u → (o : Option Reason) → precheck s u ≡ o → Turned s u a s' → Turned t u b t' → a ≡ b
      turned_same u c None e p q =
          passed_same u c e (unless_none (precheck s u) s a s' (Passed s u a s') e p)
          (unless_none (precheck t u) t b t' (Passed t u b t') (sym (precheck_same u) ∙ e) q)
      turned_same u c (Some r) e p q =
          let refused_s = subst (λ (o : Option Reason). Unless o s a s' (Passed s u a s')) e p in
          let refused_t = subst (λ (o : Option Reason). Unless o t b t' (Passed t u b t')) (sym (precheck_same u) ∙ e) q in
          refused_s.0 ∙ sym refused_t.0

pub same_answer : SameAnswer
same_answer s t law h u c a b s' t' p q = turned_same s t h law a b s' t' u c (precheck s u) refl p q
