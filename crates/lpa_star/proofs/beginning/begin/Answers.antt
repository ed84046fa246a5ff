use Rattle.std.proofs.Common.{◌<◌, ◌≤◌, sym, subst}
use Rattle.chart.specs.Meaning.{places}
use Rattle.bench.specs.Contents.{lookaheads, standings}
use Rattle.lpa_star.specs.Memory.{memory}
use Rattle.lpa_star.proofs.Beginnings.{begun}
use Rattle.lpa_star.proofs.beginning.begin.Goals as goal

pub returns-clause-current : goal.returns-clause-current
returns-clause-current g c = λ lr.
    let m = g.C.Chart.meaning c.args.chart.now in
    let v = g.C.Price.PriceKind.value in
    let a = c.args.bench.now in
    let e = c.close_all.ensures in
    let h = c.update.ensures in
    let p = c.start.result in
    let ep = c.start.ensures in
    let law = g.C.Chart.lawful c.args.chart.now in
    begun m (memory v c.close_all.new.bench) (memory v c.update.new.bench) (standings v a) (lookaheads v a) p law e.standings e.lookaheads e.queue e.order ep
    (record {
      standings = h.standings;
      right = h.right (subst (λ q. q < places m) (sym ep) law.start_in) (subst (λ r. places m ≤ r) (sym e.lender.1.1) lr);
      others = h.others;
      order = h.order;
    })
