use Rattle.std.proofs.Common.{◌≡◌, ℕ, drop}
use Rattle.std.specs.Option.{option_map}
use Rattle.chart.specs.Links.{left}
use Rattle.chart.specs.Questions.{numbers_left}
use Rattle.chart.specs.declared.end.End.TheVariants.{To}
use Rattle.bench.specs.Contents.{standings}
use Rattle.lifelong.specs.Trace.{best_move, move, nearest}
use Rattle.trace.specs.Moves.{move_of}
use Rattle.trace.proofs.trail.Trail.best_step.Given as goal

-- the links from number k on are left
abbrev pub invariant-loop-number : goal.invariant-loop-number
invariant-loop-number g l =
    let m = g.C.Chart.meaning l.self.chart.now in
    let v = g.C.Price.PriceKind.value in
    let gs = standings v l.self.bench.now in
    (k : ℕ) × (left g.C.Chart.meaning l.number-iterator ≡ numbers_left To m l.place k)
    × (nearest (option_map (move_of v) l.best) (best_move m.kind gs l.place k (drop k m.links)) ≡ move m gs l.place)
