use Rattle.std.proofs.Common.{◌≡◌, ◌+◌, ◌-◌, ◌<◌, ◌∷◌, length}
use Rattle.std.specs.List.{slice_get}
use Rattle.chart.specs.Questions.{numbers_at, numbers_left}
use Rattle.link_chart.specs.Drawn.{chart_of}
use Rattle.link_chart.proofs.over.LinkChart.nth_at.Given as goal

-- a number of the table, and so many are left to count from it on
abbrev pub invariant-loop : goal.invariant-loop
invariant-loop l =
    (l.number < length (chart_of l.self).links)
    × (slice_get (numbers_at l.end (chart_of l.self) l.place) l.n
    ≡ slice_get (l.number ∷ numbers_left l.end (chart_of l.self) l.place (l.number + 1)) (l.n - l.counter))
