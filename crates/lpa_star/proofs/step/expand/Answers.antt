use Rattle.std.proofs.Common.{◌≡◌, ◌≤◌, set, sym, ap, subst}
use Rattle.chart.specs.Meaning.{places}
use Rattle.bench.specs.Contents.{room, standings}
use Rattle.lpa_star.specs.Memory.{memory}
use Rattle.lpa_star.proofs.Columns.{standings_long, written}
use Rattle.lpa_star.proofs.Successors.{restood}
use Rattle.lpa_star.proofs.step.expand.Goals as goal

pub returns-clause-current : goal.returns-clause-current
returns-clause-current g c = λ lp lr z.
    let m = g.C.Chart.meaning c.args.chart.now in
    let v = g.C.Price.PriceKind.value in
    let p = c.args.place in
    let b = c.args.bench.now in
    let d = c.put_standing.new.self in
    let e = c.put_standing.ensures in
    let x = v c.changed-standing.result in
    let eg : standings v d ≡ set (standings v b) p x =
    written c.put_standing.result p (room b) (standings v b) (standings v d) x e.answer (standings_long v b) e.written (λ y. ap (standings v) (e.refused y)) in
    c.update_from.ensures.current lp (subst (λ r. places m ≤ r) (sym e.lender.1.1) lr) (restood m p (memory v b) (memory v d) x eg e.rest.0 e.rest.1 e.queue e.order z)
