-- The turns, what they may answer, and what is refused before anything else is looked at.
use Rattle.std.specs.Prelude.{ℕ, Bool, cond, ◌&&◌, List, Some, None, Option, ◌==◌, nat_le}
use Rattle.rows.specs.Rows.{Price}
use Rattle.chart.specs.Meaning.{places}
use Rattle.chart.specs.Refusals.{Refusal}
use Rattle.lpa_star.specs.Memory.{size}
use Rattle.turns.specs.State.{State, firm, idle, loose, same_stage}

-- A turn, with the number that its ticket bears where it is shown or spends one.
pub data Turn : Type 0 where
  begin : Turn
  -- a link, and the price that it is to have
  price : ℕ → ℕ → Price → Turn
  repair : ℕ → Turn
  -- the length of the buffer
  trace : ℕ → ℕ → Turn
  reopen : ℕ → Turn
  end_loose : ℕ → Turn
  end_firm : ℕ → Turn

-- why a turn is refused: a number, the chart's own refusal whole where it is the chart's, and the length needed where a
-- buffer is too short
pub record Reason : Type 0 where
  pub by : ℕ
  pub chart : Option Refusal
  pub needs : Option ℕ

abbrev pub plain : ℕ → Reason
plain n = record { by = n; chart = None; needs = None }

abbrev pub by_chart : Refusal → Reason
by_chart r = record { by = r.by; chart = Some r; needs = None }

abbrev pub short_buffer : ℕ → Reason
short_buffer n = record { by = 13; chart = None; needs = Some n }

pub data Answer : Type 0 where
  refused : Reason → Answer
  -- the number of a loose ticket
  gives_loose : ℕ → Answer
  sets : Answer
  -- the number of a firm ticket, the goal's standing, and how many steps were taken
  repairs : ℕ → Price → ℕ → Answer
  -- how many places were written, and which
  shows : ℕ → List ℕ → Answer
  ends : Answer

-- 10: the stage is not the ticket's, or the ticket bears another number
abbrev pub in_turn : State → Turn → Bool
in_turn s begin = same_stage idle s.stage
in_turn s (price t n p) = same_stage loose s.stage && t == s.number
in_turn s (repair t) = same_stage loose s.stage && t == s.number
in_turn s (trace t long) = same_stage firm s.stage && t == s.number
in_turn s (reopen t) = same_stage firm s.stage && t == s.number
in_turn s (end_loose t) = same_stage loose s.stage && t == s.number
in_turn s (end_firm t) = same_stage firm s.stage && t == s.number

-- a turn without a bench is refused by 10 only
abbrev pub without_bench : Bool → Option Reason
without_bench ok = cond ok None (Some (plain 10))

-- with a bench: by 10 also where the bench bears another number, then by 9 where its memory is shorter than the places
abbrev pub with_bench : Bool → State → Option Reason
with_bench ok s =
    cond (ok && s.bench.number == s.number) (cond (nat_le (places s.chart) (size s.bench)) None (Some (plain 9))) (Some (plain 10))

-- what a turn is refused by before anything else is looked at
abbrev pub precheck : State → Turn → Option Reason
precheck s begin = with_bench (in_turn s begin) s
precheck s (price t n p) = with_bench (in_turn s (price t n p)) s
precheck s (repair t) = with_bench (in_turn s (repair t)) s
precheck s (trace t long) = with_bench (in_turn s (trace t long)) s
precheck s (reopen t) = without_bench (in_turn s (reopen t))
precheck s (end_loose t) = without_bench (in_turn s (end_loose t))
precheck s (end_firm t) = without_bench (in_turn s (end_firm t))
