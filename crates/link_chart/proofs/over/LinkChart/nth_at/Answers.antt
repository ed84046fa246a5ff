use Rattle.std.proofs.Common.{◌∙◌, arith}
use Rattle.chart.proofs.Rising.{nth_done, nth_first, nth_last, nth_more, nth_none}
use Rattle.chart.specs.Questions.{leads_at}
use Rattle.link_chart.specs.Drawn.{chart_lawful, chart_of}
use Rattle.link_chart.proofs.over.LinkChart.nth_at.Goals as goal

pub returns-in_err-number : goal.returns-in_err-number
returns-in_err-number c =
    c.from_residual.ensures
    ∙ nth_none (leads_at c.args.end c.args.place) (chart_of c.args.self.now).links c.args.n c.in_err-number.ensures

pub loop-init : goal.loop-init
loop-init c =
    let next = c.in_ok-number.ensures in
    (next.1, nth_first (leads_at c.args.end c.args.place) (chart_of c.args.self.now).links c.args.n c.in_ok-number.number next)

pub returns-in_err-number-2 : goal.returns-in_err-number-2
returns-in_err-number-2 c =
    c.from_residual-in_err-number-2.ensures
    ∙ nth_last (leads_at c.args.end c.args.place) (chart_of c.args.self.now).links c.args.n c.loop.counter c.loop.number
    c.loop.invariant.1 c.loop-test.true c.in_err-number-2.ensures

pub loop-preserved : goal.loop-preserved
loop-preserved c =
    let next = c.in_ok-number-2.ensures in (
      next.1,
      nth_more (leads_at c.args.end c.args.place) (chart_of c.args.self.now).links c.args.n c.loop.counter c.loop.number
          c.in_ok-number-2.number c.loop.invariant.1 c.loop-test.true next,
    )

pub returns : goal.returns
returns c =
    nth_done (leads_at c.args.end c.args.place) (chart_of c.args.self.now).links c.args.n c.loop.counter c.loop.number
    c.loop.invariant.1 (omega arith)

pub overflow_add-number : goal.overflow_add-number
overflow_add-number c = let few = (chart_lawful c.args.self.now).links_few in omega (arith, c.loop.invariant.0)
