use Rattle.std.proofs.Common.{◌+◌, sym, refl, ap, ◌∙◌}
use Rattle.rows.specs.Rows.{smaller, zero_of}
use Rattle.chart.specs.Links.{left}
use Rattle.chart.specs.Questions.{leads_into}
use Rattle.chart.specs.Routes.{least_over}
use Rattle.chart.proofs.Rising.{next_of, none_of}
use Rattle.price.proofs.Ordered.{min_value}
use Rattle.bench.specs.Contents.{standings}
use Rattle.lifelong.specs.Standings.{lookahead, through}
use Rattle.lifelong.proofs.Lookaheads.{look_other, look_start}
use Rattle.lpa_star.proofs.Lookaheads.{look_end, look_more}
use Rattle.lpa_star.proofs.look.lookahead_of.Goals as goal

pub returns-then-place-start : goal.returns-then-place-start
returns-then-place-start g c =
    let m = g.C.Chart.meaning c.args.chart.now in
    let gs = standings g.C.Price.PriceKind.value c.args.bench.now in
    c.zero.ensures ∙ ap zero_of (sym (g.met.C.Chart.priced_in c.args.chart.now))
    ∙ sym (ap (lookahead m gs) (c.if-place-start.true ∙ c.start.ensures) ∙ look_start m gs)

pub loop-number-init : goal.loop-number-init
loop-number-init g c =
    let m = g.C.Chart.meaning c.args.chart.now in
    let cost = through m.kind (standings g.C.Price.PriceKind.value c.args.bench.now) in (
      0,
      ap (left g.C.Chart.meaning) c.into_iter-number-iterator.ensures.into_iter_gives ∙ c.new-number-items.ensures,
      ap (λ b. smaller b (least_over (leads_into c.args.place) cost m.links)) c.closed-best.ensures,
    )

pub loop-number-preserved : goal.loop-number-preserved
loop-number-preserved g c =
    let m = g.C.Chart.meaning c.args.chart.now in
    let v = g.C.Price.PriceKind.value in
    let gs = standings v c.args.bench.now in
    let l = c.loop-number in
    let next = next_of (leads_into c.args.place) m.links l.invariant.0 c.in-Some.number (left g.C.Chart.meaning c.next.new.self) (sym l.invariant.1 ∙ c.in-Some.ensures.steps) in
    let less = ap v c.min-best.ensures ∙ min_value v g.C.Price.Ord.cmp g.met.C.Price.PriceKind.ordered l.best c.cost_through.result ∙ ap (smaller (v l.best)) c.cost_through.ensures in (
      c.in-Some.number + 1,
      next.1,
      look_more (leads_into c.args.place) (through m.kind gs) m.links l.invariant.0 c.in-Some.number (v l.best) (v c.min-best.result) _ next.0 less l.invariant.2,
    )

pub returns : goal.returns
returns g c =
    let m = g.C.Chart.meaning c.args.chart.now in
    let v = g.C.Price.PriceKind.value in
    let gs = standings v c.args.bench.now in
    let l = c.loop-number in
    look_end (leads_into c.args.place) (through m.kind gs) m.links l.invariant.0 (v l.best) _
    (none_of (leads_into c.args.place) m.links refl l.invariant.0 (sym l.invariant.1 ∙ c.in-None.ensures.steps.0)) l.invariant.2
    ∙ sym (look_other m gs c.args.place (λ e. c.if-place-start.false (e ∙ sym c.start.ensures)))
