use Rattle.std.proofs.Common.{ap, ◌∙◌}
use Rattle.layer_meaning.specs.Returned.{returned}
use Rattle.layer_meaning.proofs.Returning.{left}
use Rattle.layers.proofs.back.ReturnChart.set_price.Goals as goal

pub returns-clause-after : goal.returns-clause-after
returns-clause-after g c =
    ap returned c.set_price.ensures.after
    ∙ left (g.C.Chart.meaning c.args.self.now.chart) c.args.link (g.C.Price.PriceKind.value c.args.price)
