-- What a fault says: its number, and its values.
use Rattle.std.specs.Prelude.{Some, None, Ok, Err, Option, Result}
use Rattle.chart.specs.Refusals.{told as chart_told}
use Rattle.turns.specs.Turns.{Reason, by_chart, plain, short_buffer}
use Rattle.trace.specs.declared.tracing.Untraced.{Untraced}
use Rattle.trace.specs.declared.tracing.Untraced.TheVariants.{GoalClosed, StartMissed, ShortBuffer as TooShort}
use Rattle.planner.specs.declared.fault.Fault.{Fault}
use Rattle.planner.specs.declared.fault.Fault.TheVariants.{Chart, NoRoute, NotSettled, OutOfTurn, ShortBench, ShortBuffer}

abbrev pub told : Fault → Reason
told ShortBench = plain 9
told OutOfTurn = plain 10
told NotSettled = plain 11
told NoRoute = plain 12
told (ShortBuffer n) = short_buffer n
told (Chart f) = by_chart (chart_told f)

-- why a trace shows no route, as a fault of the planner
abbrev pub untraced : Untraced → Fault
untraced GoalClosed = NoRoute
untraced StartMissed = NotSettled
untraced (TooShort n) = ShortBuffer n

-- why a check fails, if it does
abbrev pub refused_by : Result Unit Fault → Option Reason
refused_by (Ok _) = None
refused_by (Err f) = Some (told f)
