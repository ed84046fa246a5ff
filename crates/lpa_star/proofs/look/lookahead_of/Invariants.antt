use Rattle.std.proofs.Common.{◌≡◌, ℕ, drop}
use Rattle.rows.specs.Rows.{smaller}
use Rattle.chart.specs.Links.{left}
use Rattle.chart.specs.Questions.{leads_into, numbers_left}
use Rattle.chart.specs.Routes.{least_over}
use Rattle.chart.specs.declared.end.End.TheVariants.{To}
use Rattle.bench.specs.Contents.{standings}
use Rattle.lifelong.specs.Standings.{through}
use Rattle.lpa_star.proofs.look.lookahead_of.Given as goal

-- the links from number k on are left
abbrev pub invariant-loop-number : goal.invariant-loop-number
invariant-loop-number g l =
    let m = g.C.Chart.meaning l.chart in
    let all = least_over (leads_into l.place) (through m.kind (standings g.C.Price.PriceKind.value l.bench)) in
    (k : ℕ) × (left g.C.Chart.meaning l.number-iterator ≡ numbers_left To m l.place k) × (smaller (g.C.Price.PriceKind.value l.best) (all (drop k m.links)) ≡ all m.links)
