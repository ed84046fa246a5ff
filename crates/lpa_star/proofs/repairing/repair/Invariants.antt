use Rattle.std.proofs.Common.{◌≡◌, ◌*◌, ◌≤◌}
use Rattle.chart.specs.Meaning.{places}
use Rattle.bench.specs.Contents.{SameLender, room}
use Rattle.lpa_star.specs.Memory.{memory}
use Rattle.lpa_star.specs.Past.{KeepsPast}
use Rattle.lpa_star.specs.UpToDate.{UpToDate}
use Rattle.lpa_star.proofs.Progress.{Done}
use Rattle.lpa_star.proofs.repairing.repair.Given as goal

abbrev pub invariant-loop-steps : goal.invariant-loop-steps
invariant-loop-steps g l =
    let m = g.C.Chart.meaning l.chart in
    let v = g.C.Price.PriceKind.value in
    let a = l.initial.bench in
    let b = l.bench in
    SameLender l.initial.bench l.bench
    × (l.limit ≡ 2 * places m)
    × (l.steps ≤ 2 * places m)
    × (places m ≤ room a → UpToDate m (memory v a) → Done m (memory v a) (memory v b) l.steps)
    × KeepsPast (places m) a b
