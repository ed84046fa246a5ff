-- A planner and a bench as a state.
use Rattle.rows.specs.Rows.{Price}
use Rattle.chart.specs.Meaning.{Meaning}
use Rattle.bench.specs.declared.bench.Bench.{Bench}
use Rattle.bench.specs.declared.key.Key.{Key as PriceKey}
use Rattle.lpa_star.specs.Memory.{Memory, memory}
use Rattle.turns.specs.State.{Stage as TurnStage, State, firm, idle, loose}
use Rattle.planner.specs.declared.parts.Stage.{Stage}
use Rattle.planner.specs.declared.parts.Stage.TheVariants.{Firm, Idle, Loose}
use Rattle.planner.specs.declared.planner.Planner.{Planner}

abbrev pub stage_of : Stage → TurnStage
stage_of Idle = idle
stage_of Loose = loose
stage_of Firm = firm

-- the state of a planner with a bench at hand, where mean gives the meaning of its chart
abbrev pub state_with : {C P : Type 0} → (C → Meaning) → Planner C P → Memory → State
state_with mean p b = record { number = p.number; stage = stage_of p.stage; chart = mean p.chart; bench = b }

-- and value the price that a value stands for
abbrev pub state : {C P : Type 0} → (C → Meaning) → (P → Price) → Planner C P → Bench P (PriceKey P) → State
state mean value p b = state_with mean p (memory value b)

-- the same planner at another stage
abbrev pub at_stage_of : {C P : Type 0} → Stage → Planner C P → Planner C P
at_stage_of g p = record { chart = p.chart; number = p.number; stage = g }
