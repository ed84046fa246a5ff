use Rattle.std.proofs.Common.{◌+◌, sym, refl, ap, ◌∙◌}
use Rattle.std.specs.Option.{option_map}
use Rattle.chart.specs.Links.{left}
use Rattle.chart.specs.Questions.{leads_into}
use Rattle.chart.proofs.Rising.{next_of, none_of}
use Rattle.bench.specs.Contents.{standings}
use Rattle.lifelong.specs.Trace.{nearest}
use Rattle.trace.specs.Moves.{move_of}
use Rattle.trace.proofs.Nearest.{move_end, move_more}
use Rattle.trace.proofs.trail.Trail.best_step.Goals as goal

pub loop-number-preserved : goal.loop-number-preserved
loop-number-preserved g c =
    let m = g.C.Chart.meaning c.args.self.now.chart.now in
    let v = g.C.Price.PriceKind.value in
    let gs = standings v c.args.self.now.bench.now in
    let l = c.loop-number in
    let next = next_of (leads_into c.args.place) m.links l.invariant.0 c.in-Some.number (left g.C.Chart.meaning c.next.new.self) (sym l.invariant.1 ∙ c.in-Some.ensures.steps) in (
      c.in-Some.number + 1,
      next.1,
      move_more m.kind gs c.args.place m.links l.invariant.0 c.in-Some.number (option_map (move_of v) l.best) (option_map (move_of v) c.nearer_of-best.result) _ next.0
          (c.nearer_of-best.ensures ∙ ap (nearest (option_map (move_of v) l.best)) c.step_over.ensures) l.invariant.2,
    )

pub returns : goal.returns
returns g c =
    let m = g.C.Chart.meaning c.args.self.now.chart.now in
    let v = g.C.Price.PriceKind.value in
    let l = c.loop-number in
    move_end m.kind (standings v c.args.self.now.bench.now) c.args.place m.links l.invariant.0 (option_map (move_of v) l.best) _
    (none_of (leads_into c.args.place) m.links refl l.invariant.0 (sym l.invariant.1 ∙ c.in-None.ensures.steps.0)) l.invariant.2
