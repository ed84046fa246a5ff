use Rattle.std.proofs.Common.{sym, ap, ◌∙◌}
use Rattle.layer_meaning.specs.Guarded.{guarded}
use Rattle.layer_meaning.proofs.Guarding.{left_free}
use Rattle.layers.proofs.guard.GuardChart.set_price.Goals as goal

pub returns-clause-after : goal.returns-clause-after
returns-clause-after g c =
    ap (guarded c.args.self.now.listed.items) c.set_price.ensures.after
    ∙ left_free c.args.self.now.listed.items (g.C.Chart.meaning c.args.self.now.chart) c.args.link (g.C.Price.PriceKind.value c.args.price) (sym c.holds.ensures ∙ c.if-holds.false)
