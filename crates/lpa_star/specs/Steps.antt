-- The standings after a step that may find no place to take.
use Rattle.std.specs.Prelude.{ℕ, List, Some, None, Option}
use Rattle.rows.specs.Rows.{Price}
use Rattle.chart.specs.Meaning.{Meaning}
use Rattle.lifelong.specs.Step.{step}

abbrev pub after_step : Meaning → List Price → Option ℕ → List Price
after_step m gs None = gs
after_step m gs (Some p) = step m gs p
