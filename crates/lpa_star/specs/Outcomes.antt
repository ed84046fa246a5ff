-- How a repair came out.
use Rattle.std.specs.Prelude.{ℕ, Ok, Err, Result}
use Rattle.lpa_star.specs.declared.repairing.Unsettled.{Unsettled}

-- the steps that were taken, settled or not
abbrev pub steps_of : Result ℕ Unsettled → ℕ
steps_of (Ok n) = n
steps_of (Err e) = e.steps
