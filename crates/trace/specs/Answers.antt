-- What a trace answers and writes, given the trace by the definitions and the length of the buffer.
use Rattle.std.specs.Prelude.{ℕ, cond, List, ◌++◌, length, drop, Ok, Err, Result, nat_le}
use Rattle.lifelong.specs.Trace.{Traced, misses, none, shows}
use Rattle.trace.specs.declared.tracing.Untraced.{Untraced}
use Rattle.trace.specs.declared.tracing.Untraced.TheVariants.{GoalClosed, StartMissed, ShortBuffer}

-- the number of places of the route, or why there is none to show, or how long a buffer it needs
abbrev pub answer : Traced → ℕ → Result ℕ Untraced
answer none long = Err GoalClosed
answer misses long = Err StartMissed
answer (shows ps) long = cond (nat_le (length ps) long) (Ok (length ps)) (Err (ShortBuffer (length ps)))

-- the buffer then: the route, start first, and what stood past it; as it was where nothing is shown
abbrev pub written : Traced → List ℕ → List ℕ
written none out = out
written misses out = out
written (shows ps) out = cond (nat_le (length ps) (length out)) (ps ++ drop (length ps) out) out
