use Rattle.std.proofs.Common.{Some, None, ap, ◌∙◌}
use Rattle.std.specs.Option.{option_map}
use Rattle.rows.specs.Rows.{closed}
use Rattle.lpa_star.proofs.Columns.{read}
use Rattle.lpa_star.proofs.Keys.{key_shut, key_summed}
use Rattle.lpa_star.proofs.look.key_for.Goals.{in-Some, in-None}
use Rattle.lpa_star.proofs.look.key_for.Goals as goal

pub returns : goal.returns
returns g c =
    let m = g.C.Chart.meaning c.args.chart.now in
    let v = g.C.Price.PriceKind.value in
    let kind = g.met.C.Chart.priced_in c.args.chart.now in
    let own = v c.args.own in
    elim c.match-estimate.branch [
      | in-Some w ↦ key_summed m g.C.Price.PriceKind.kind c.args.place (v c.match-estimate.whole) own (v w.in-Some.estimate) kind (ap v w.whole-is ∙ w.plus-whole.ensures)
          (read m.estimates c.args.place closed (option_map v (Some w.in-Some.estimate)) w.in-Some.ensures)
      | in-None w ↦ key_shut m g.C.Price.PriceKind.kind c.args.place (v c.match-estimate.whole) own closed (ap v w.whole-is ∙ w.closed-whole.ensures)
          (read m.estimates c.args.place closed (option_map v None) w.in-None.ensures)
    ]
