use Rattle.std.proofs.Common.{◌≤◌}
use Rattle.chart.specs.Meaning.{places}
use Rattle.bench.specs.Contents.{standings}
use Rattle.trace.specs.Lengths.{route_length}
use Rattle.trace.specs.Moves.{way_back}
use Rattle.trace.proofs.Walks.{Counting}
use Rattle.trace.proofs.trail.Trail.length.Given as goal

abbrev pub invariant-loop-moves : goal.invariant-loop-moves
invariant-loop-moves g l =
    let m = g.C.Chart.meaning l.self.chart.now in
    let gs = standings g.C.Price.PriceKind.value l.self.bench.now in
    (l.moves ≤ places m) × Counting m gs l.moves (places m) l.place (route_length (way_back m gs))
