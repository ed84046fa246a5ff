-- Going over the links of a place one by one.
use Rattle.std.specs.Prelude.{ℕ, List}
use Rattle.chart.specs.Meaning.{Meaning}
use Rattle.chart.specs.Questions.{numbers_left}
use Rattle.chart.specs.declared.links.LinksAt.{LinksAt}

-- the numbers that are left, where `meaning` says what the chart means
abbrev pub left : {C : Type 0} → (C → Meaning) → LinksAt C → List ℕ
left meaning s = numbers_left s.end (meaning s.chart.now) s.place s.from
