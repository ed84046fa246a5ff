use Rattle.layer_meaning.specs.Heights.{above}
use Rattle.layer_meaning.proofs.Guarding.{next_guarded}
use Rattle.layers.proofs.guard.GuardChart.next_link.Goals as goal

pub returns : goal.returns
returns g c =
    let below = g.C.Chart.meaning c.args.self.now.chart in
    next_guarded c.args.self.now.listed.items (above below.height) c.args.end c.args.place below.links c.args.from c.next_link.result c.next_link.ensures
