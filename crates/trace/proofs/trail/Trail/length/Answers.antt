use Rattle.std.proofs.Common.{◌≡◌, ◌<◌, ◌≤◌, sym, ◌∙◌, arith}
use Rattle.chart.specs.Meaning.{places}
use Rattle.bench.specs.Contents.{standings}
use Rattle.trace.proofs.Walks.{move_on, set_out}
use Rattle.trace.proofs.trail.Trail.length.Goals as goal

pub loop-moves-init : goal.loop-moves-init
loop-moves-init g c =
    let m = g.C.Chart.meaning c.args.self.now.chart.now in
    (omega arith, set_out m (standings g.C.Price.PriceKind.value c.args.self.now.bench.now) (places m) c.goal-place.result m.goal c.goal-place.ensures)

pub loop-moves-preserved : goal.loop-moves-preserved
loop-moves-preserved g c =
    let m = g.C.Chart.meaning c.args.self.now.chart.now in
    let l = c.loop-moves in
    let u : l.place ≡ m.start → ⊥ = λ e. c.if-place-start.false (e ∙ sym c.start-start.ensures) in
    let t : l.moves < places m = omega (arith, c.loop-moves-test.true, c.from-places.ensures, c.places.ensures) in
    (omega arith, move_on m (standings g.C.Price.PriceKind.value c.args.self.now.bench.now) l.moves (places m) l.place c.in_ok-place.place _ l.invariant.1 t u c.in_ok-place.ensures)
