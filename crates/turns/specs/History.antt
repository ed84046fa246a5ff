-- Lists of turns, refused ones among them, from a planner's first hour.
use Rattle.std.specs.Prelude.{◌≡◌, Bool, true, false, cond, ◌&&◌, List, [], ◌∷◌, Some, None, Option}
use Rattle.chart.specs.Lawful.{Lawful}
use Rattle.lpa_star.specs.Memory.{Memory}
use Rattle.turns.specs.State.{State, idle, showing}
use Rattle.turns.specs.Turned.{Turned}
use Rattle.turns.specs.Turns.{Answer, Reason, Turn, begin, end_firm, end_loose, precheck, price, repair, reopen, trace}

-- one turn of a list: the state before it, the bench that it is shown, its answer, and the state with that bench after it
pub record Entry : Type 0 where
  pub before : State
  pub shown : Memory
  pub turn : Turn
  pub answer : Answer
  pub after : State

-- is the bench shown the one that the planner works on from then on? An accepted begin makes it that
abbrev pub takes_bench : Turn → Bool
takes_bench begin = true
takes_bench (price k n p) = true
takes_bench (repair k) = true
takes_bench (trace k long) = true
takes_bench (reopen k) = false
takes_bench (end_loose k) = false
takes_bench (end_firm k) = false

-- must the bench shown be that of the latest accepted begin? Past 10 and 9 it must, but for begin itself
abbrev pub wants_own : Turn → Bool
wants_own begin = false
wants_own (price k n p) = true
wants_own (repair k) = true
wants_own (trace k long) = true
wants_own (reopen k) = false
wants_own (end_loose k) = false
wants_own (end_firm k) = false

-- no reason to refuse
abbrev pub no_reason : Option Reason → Bool
no_reason None = true
no_reason (Some r) = false

-- past 10 and 9
abbrev pub passes : State → Turn → Bool
passes s u = no_reason (precheck s u)

-- the state that follows: with the bench shown after a turn that passes with it, else with the bench as before
abbrev pub following : Entry → State
following e =
    cond (takes_bench e.turn && passes (showing e.shown e.before) e.turn) e.after (showing e.before.bench e.after)

-- the turn is what its definition says, and shown a bench of its own where it must be; a turn refused by 10 or 9 may be
-- shown any
pub record Taken (e : Entry) : Type 0 where
  pub turned : Turned (showing e.shown e.before) e.turn e.answer e.after
  pub own : wants_own e.turn ≡ true → passes (showing e.shown e.before) e.turn ≡ true → e.shown ≡ e.before.bench

-- the turns, the latest first, lead from one state to another
abbrev pub Came : State → List Entry → State → Type 0
Came from [] s = s ≡ from
Came from (e ∷ es) s = Came from es e.before × Taken e × (s ≡ following e)

-- a state that a planner can come to. It keeps nothing but chart, number and stage, so any idle state over a lawful chart
-- is a first hour, whatever bench is at hand
pub record Reachable (s : State) : Type 0 where
  pub from : State
  pub turns : List Entry
  pub first_hour : from.stage ≡ idle
  pub lawful : Lawful from.chart
  pub came : Came from turns s
