use Rattle.std.proofs.Common.{◌≡◌, ℕ, ◌<◌, ◌≤◌, false}
use Rattle.chart.specs.Meaning.{link_at}
use Rattle.chart.specs.Questions.{leads_at}
use Rattle.link_chart.specs.Drawn.{chart_of}
use Rattle.link_chart.proofs.over.LinkChart.next_at.Given as goal

-- none so far has its end there
abbrev pub invariant-loop-n : goal.invariant-loop-n
invariant-loop-n l = (j : ℕ) → l.from ≤ j → j < l.n → leads_at l.end l.place (link_at (chart_of l.self) j) ≡ false
