use Rattle.layer_meaning.proofs.Returning.{next_returned}
use Rattle.layers.proofs.back.ReturnChart.next_link.Goals as goal

pub returns : goal.returns
returns g c =
    next_returned c.args.end c.args.place (g.C.Chart.meaning c.args.self.now.chart).links c.args.from c.next_link.result
    (rw c.opposite.ensures at c.next_link.ensures)
