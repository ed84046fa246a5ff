use Rattle.std.proofs.Common.{◌≤◌, length}
use Rattle.bench.specs.Contents.{standings}
use Rattle.trace.specs.Answers.{written}
use Rattle.trace.specs.Moves.{way_back}
use Rattle.trace.proofs.Writes.{Left}
use Rattle.trace.proofs.trail.Trail.write.Given as goal

abbrev pub invariant-loop-left : goal.invariant-loop-left
invariant-loop-left g l =
    let m = g.C.Chart.meaning l.self.chart.now in
    let gs = standings g.C.Price.PriceKind.value l.self.bench.now in
    (l.left ≤ length l.initial.out) × Left m gs l.place l.left l.out (written (way_back m gs) l.initial.out)
