use Rattle.std.proofs.Common.{◌≡◌, ◌+◌, ◌-◌, ◌<◌, ◌∷◌, length}
use Rattle.std.specs.List.{slice_get}
use Rattle.chart.specs.Questions.{numbers_at, numbers_left}
use Rattle.chart.proofs.chart.Chart.nth_link.Given as goal

-- a number of the table, and so many are left to count from it on
abbrev pub invariant-loop : goal.invariant-loop
invariant-loop g l =
    (l.number < length (g.Self.Chart.meaning l.self).links)
    × (slice_get (numbers_at l.end (g.Self.Chart.meaning l.self) l.place) l.n
    ≡ slice_get (l.number ∷ numbers_left l.end (g.Self.Chart.meaning l.self) l.place (l.number + 1)) (l.n - l.counter))
