-- Each turn as a relation between the state before, the answer and the state after. Which of the heaps the queue is, the
-- unused slots and the unused indexes are free.
use Rattle.std.specs.Prelude.{◌≡◌, ℕ, ◌*◌, ◌≤◌, false, cond, length, Some, None, Option, nat_le}
use Rattle.rows.specs.Rows.{Price}
use Rattle.chart.specs.Meaning.{link_at, places, priced}
use Rattle.chart.specs.Questions.{leads_into}
use Rattle.chart.specs.Refusals.{refusal}
use Rattle.lifelong.specs.Standings.{standing_at}
use Rattle.lifelong.specs.Step.{settled}
use Rattle.lifelong.specs.Run.{repair as defined_repair}
use Rattle.lifelong.specs.Trace.{Traced, misses, none, shows as shows_places, trace as defined_trace}
use Rattle.lpa_star.specs.Closing.{closed_first}
use Rattle.lpa_star.specs.Memory.{EachOnce, SamePast, size}
use Rattle.lpa_star.specs.UpToDate.{SameAt, UpToDate}
use Rattle.std.specs.Option.{option_map}
use Rattle.turns.specs.State.{State, at_stage, firm, idle, loose}
use Rattle.turns.specs.Turns.{Answer, Reason, Turn, begin, by_chart, end_firm, end_loose, ends, gives_loose, plain, precheck, price, refused, repair, repairs, reopen, sets, short_buffer, shows, trace}

-- begin closes all standings and brings the bench up to date; what lies past the places stays as it was
pub record Begun (s : State) (a : Answer) (t : State) : Type 0 where
  pub answer : a ≡ gives_loose s.number
  pub number : t.number ≡ s.number
  pub stage : t.stage ≡ loose
  pub chart : t.chart ≡ s.chart
  pub bench_number : t.bench.number ≡ s.bench.number
  pub standings : t.bench.standings ≡ closed_first (places s.chart) s.bench.standings
  pub current : UpToDate s.chart t.bench
  pub once : EachOnce t.bench
  pub past : SamePast (places s.chart) s.bench t.bench

-- a price that is not refused stands on the chart; of the bench only what is kept of the link's to place changes, and a
-- bench that was up to date is so again. What a bench that was not is left with there is free
pub record Priced (s : State) (n : ℕ) (p : Price) (a : Answer) (t : State) : Type 0 where
  pub answer : a ≡ sets
  pub number : t.number ≡ s.number
  pub stage : t.stage ≡ s.stage
  pub chart : t.chart ≡ priced s.chart n p
  pub bench_number : t.bench.number ≡ s.bench.number
  pub standings : t.bench.standings ≡ s.bench.standings
  pub others : (q : ℕ) → leads_into q (link_at s.chart n) ≡ false → SameAt s.bench t.bench q
  pub current : UpToDate s.chart s.bench → UpToDate t.chart t.bench
  pub once : EachOnce t.bench
  pub past : UpToDate s.chart s.bench → SamePast (places s.chart) s.bench t.bench

-- a repair is accepted, and answers the goal's standing and how many steps it took, or refused by 11
abbrev pub AcceptedOr11 : State → Answer → State → Type 0
AcceptedOr11 s (repairs k d n) t =
    (k ≡ s.number) × (d ≡ standing_at t.bench.standings s.chart.goal) × (n ≤ 2 * places s.chart) × (t.stage ≡ firm)
AcceptedOr11 s (refused r) t = (r ≡ plain 11) × (t.stage ≡ s.stage)
AcceptedOr11 s (gives_loose k) t = ⊥
AcceptedOr11 s sets t = ⊥
AcceptedOr11 s (shows n ps) t = ⊥
AcceptedOr11 s ends t = ⊥

-- the answer of the defined run: its distance and its length, or 11 where it is not settled after two steps for each place
abbrev pub repair_answer : State → Answer
repair_answer s =
    cond (settled s.chart (defined_repair s.chart s.bench.standings).left)
    (repairs s.number (standing_at (defined_repair s.chart s.bench.standings).left s.chart.goal) (length (defined_repair s.chart s.bench.standings).steps))
    (refused (plain 11))

-- on a bench that is up to date a repair takes the defined steps, and leaves it up to date
pub record ByTheSteps (s : State) (a : Answer) (t : State) : Type 0 where
  pub answer : a ≡ repair_answer s
  pub standings : t.bench.standings ≡ (defined_repair s.chart s.bench.standings).left
  pub current : UpToDate s.chart t.bench
  pub past : SamePast (places s.chart) s.bench t.bench

-- on any other its contents, the distance, the steps and the choice between the two answers are free
pub record Repaired (s : State) (a : Answer) (t : State) : Type 0 where
  pub answer : AcceptedOr11 s a t
  pub number : t.number ≡ s.number
  pub chart : t.chart ≡ s.chart
  pub bench_number : t.bench.number ≡ s.bench.number
  pub bench_size : size t.bench ≡ size s.bench
  pub once : EachOnce t.bench
  pub defined : UpToDate s.chart s.bench → ByTheSteps s a t

-- 12 where there is none to show, 11 where the trace misses the start, 13 where the route is longer than its buffer
abbrev pub trace_answer : Traced → ℕ → Answer
trace_answer none long = refused (plain 12)
trace_answer misses long = refused (plain 11)
trace_answer (shows_places ps) long = cond (nat_le (length ps) long) (shows (length ps) ps) (refused (short_buffer (length ps)))

-- refused for a reason, which leaves everything as it was; else what is said
abbrev pub Unless : Option Reason → State → Answer → State → Type 0 → Type 0
Unless None s a t Else = Else
Unless (Some r) s a t Else = (a ≡ refused r) × (t ≡ s)

-- a turn past 10 and 9
abbrev pub Passed : State → Turn → Answer → State → Type 0
Passed s begin a t = Begun s a t
Passed s (price k n p) a t = Unless (option_map by_chart (refusal s.chart n p)) s a t (Priced s n p a t)
Passed s (repair k) a t = Repaired s a t
Passed s (trace k long) a t = (a ≡ trace_answer (defined_trace s.chart s.bench.standings) long) × (t ≡ s)
Passed s (reopen k) a t = (a ≡ gives_loose s.number) × (t ≡ at_stage loose s)
Passed s (end_loose k) a t = (a ≡ ends) × (t ≡ at_stage idle s)
Passed s (end_firm k) a t = (a ≡ ends) × (t ≡ at_stage idle s)

-- the turn leads from state s to state t and answers a
abbrev pub Turned : State → Turn → Answer → State → Type 0
Turned s u a t = Unless (precheck s u) s a t (Passed s u a t)
