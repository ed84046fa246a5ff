-- What a planner and its bench stand at between two turns.
use Rattle.std.specs.Prelude.{ℕ, Bool, true, false}
use Rattle.chart.specs.Meaning.{Meaning}
use Rattle.lpa_star.specs.Memory.{Memory}

-- the stage of a planner: idle; loose, while prices may be set; firm, while the route may be traced
pub data Stage : Type 0 where
  idle : Stage
  loose : Stage
  firm : Stage

abbrev pub same_stage : Stage → Stage → Bool
same_stage idle idle = true
same_stage idle loose = false
same_stage idle firm = false
same_stage loose idle = false
same_stage loose loose = true
same_stage loose firm = false
same_stage firm idle = false
same_stage firm loose = false
same_stage firm firm = true

-- the planner's number and stage, the meaning of its chart, and all that the bench at hand holds
pub record State : Type 0 where
  pub number : ℕ
  pub stage : Stage
  pub chart : Meaning
  pub bench : Memory

-- the same at another stage
abbrev pub at_stage : Stage → State → State
at_stage g s = record { number = s.number; stage = g; chart = s.chart; bench = s.bench }

-- the same with another bench at hand
abbrev pub showing : Memory → State → State
showing b s = record { number = s.number; stage = s.stage; chart = s.chart; bench = b }
