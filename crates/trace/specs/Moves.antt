-- Moves as the code has them, and the way back that they lead.
use Rattle.std.specs.Prelude.{ℕ, cond, List, Some, None, Option}
use Rattle.rows.specs.Rows.{Price, is_open}
use Rattle.chart.specs.Meaning.{Meaning, places}
use Rattle.lifelong.specs.Trace.{Move, Traced, move, traced, walk}
use Rattle.trace.specs.declared.step_back.Step.{Step}

-- the move that a step back stands for, where v gives the price that a value stands for
abbrev pub move_of : {P : Type 0} → (P → Price) → Step P → Move
move_of v s = record { number = s.number; from = s.from; cost = v s.cost }

-- the place that a move leads to; none where its cost is closed
abbrev pub led_to : Option Move → Option ℕ
led_to None = None
led_to (Some a) = cond (is_open a.cost) (Some a.from) None

-- the place before x on the way back
abbrev pub before_on_the_way : Meaning → List Price → ℕ → Option ℕ
before_on_the_way m gs x = led_to (move m gs x)

-- the way back from the goal, of as many moves as places at most
abbrev pub way_back : Meaning → List Price → Traced
way_back m gs = traced (walk m gs (places m) m.goal)
