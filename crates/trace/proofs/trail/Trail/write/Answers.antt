use Rattle.std.proofs.Common.{◌≡◌, ◌+◌, ◌-◌, subst, arith}
use Rattle.chart.specs.Meaning.{places}
use Rattle.bench.specs.Contents.{standings}
use Rattle.trace.specs.Answers.{written}
use Rattle.trace.specs.Moves.{way_back}
use Rattle.trace.proofs.Writes.{Left, all_left, leads_on, one_written}
use Rattle.trace.proofs.trail.Trail.write.Goals as goal

pub loop-left-init : goal.loop-left-init
loop-left-init g c =
    let m = g.C.Chart.meaning c.args.self.now.chart.now in
    let gs = standings g.C.Price.PriceKind.value c.args.self.now.bench.now in (
      c.requires.count.1,
      all_left m gs (places m) c.goal-place.result m.goal c.args.count c.args.out.now c.goal-place.ensures c.requires.count.0 c.requires.count.1,
    )

pub returns-in-None : goal.returns-in-None
returns-in-None g c =
    let m = g.C.Chart.meaning c.args.self.now.chart.now in
    let gs = standings g.C.Price.PriceKind.value c.args.self.now.bench.now in
    let l = c.loop-left in
    let done = written (way_back m gs) c.args.out.now in
    let e : l.left ≡ l.left - 1 + 1 = omega arith in
    absurd (leads_on m gs l.place (l.left - 1) l.out done (subst (λ n. Left m gs l.place n l.out done) e l.invariant.1) (omega arith)
    c.in-None.ensures)

pub loop-left-preserved : goal.loop-left-preserved
loop-left-preserved g c =
    let m = g.C.Chart.meaning c.args.self.now.chart.now in
    let gs = standings g.C.Price.PriceKind.value c.args.self.now.bench.now in
    let l = c.loop-left in
    let done = written (way_back m gs) c.args.out.now in
    let e : l.left ≡ l.left - 1 + 1 = omega arith in
    let i = l.invariant.0 in (
      omega arith,
      one_written m gs l.place (l.left - 1) l.out done (subst (λ n. Left m gs l.place n l.out done) e l.invariant.1) (omega arith)
          c.in-Some.before c.in-Some.ensures,
    )
