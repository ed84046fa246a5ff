use Rattle.std.proofs.Common.{◌≡◌, ℕ, ◌<◌, ◌≤◌}
use Rattle.chart.specs.Links.{left}
use Rattle.chart.specs.Meaning.{places}
use Rattle.chart.specs.Questions.{numbers_left}
use Rattle.chart.specs.declared.end.End.TheVariants.{From}
use Rattle.bench.specs.Contents.{SameLender, room, standings}
use Rattle.lpa_star.specs.Memory.{memory}
use Rattle.lpa_star.specs.Past.{KeepsPast}
use Rattle.lpa_star.specs.UpToDate.{UpToDateBut}
use Rattle.lpa_star.proofs.step.update_from.Given as goal

-- the links from number k on are left
abbrev pub invariant-loop-number : goal.invariant-loop-number
invariant-loop-number g l =
    let m = g.C.Chart.meaning l.chart in
    let v = g.C.Price.PriceKind.value in
    let a = l.initial.bench in
    let b = l.bench in
    (k : ℕ) × (left g.C.Chart.meaning l.number-iterator ≡ numbers_left From m l.place k)
    × SameLender l.initial.bench l.bench
    × (standings v b ≡ standings v a)
    × (l.place < places m → places m ≤ room a → UpToDateBut m l.place 0 (memory v a) → UpToDateBut m l.place k (memory v b))
    × (l.place < places m → KeepsPast (places m) a b)
