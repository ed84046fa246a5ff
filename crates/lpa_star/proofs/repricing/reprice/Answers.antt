use Rattle.std.proofs.Common.{◌≡◌, ◌<◌, ◌≤◌, sym, ◌∙◌, subst}
use Rattle.chart.specs.Meaning.{link_at, places, priced}
use Rattle.chart.specs.Refusals.{refusal}
use Rattle.bench.specs.Contents.{room}
use Rattle.lpa_star.specs.Memory.{memory}
use Rattle.lpa_star.specs.UpToDate.{to_of}
use Rattle.lpa_star.proofs.Repricings.{not_refused, repriced}
use Rattle.lpa_star.proofs.Successors.{led, to_inside}
use Rattle.lpa_star.proofs.repricing.reprice.Goals as goal

pub returns-in-Some-clause-current : goal.returns-in-Some-clause-current
returns-in-Some-clause-current g c = λ lr z.
    let m = g.C.Chart.meaning c.args.chart.now in
    let k = g.C.Chart.meaning c.set_price.new.self in
    let v = g.C.Price.PriceKind.value in
    let b = c.args.bench.now in
    let n = c.args.link in
    let x = v c.args.price in
    let t = c.in_ok-set_price.ensures in
    let h = c.update.ensures in
    let law = g.C.Chart.lawful c.args.chart.now in
    let p = c.in-Some.to in
    let ep : p ≡ to_of (link_at m n) m.start = led (link_at m n) m.start p c.in-Some.ensures in
    let lp : p < places m = subst (λ q. q < places m) (sym ep) (to_inside m.kind (places m) m.height m.start (link_at m n) law.start_in (law.links_law n)) in
    let ek : k ≡ priced m n x = t.after ∙ not_refused (refusal m n x) m (priced m n x) t.answer in
    repriced m k (memory v b) (memory v c.update.new.bench) n x m.start p ek ep lp
    (record {
      standings = h.standings;
      right = h.right (subst (λ y. p < places y) (sym ek) lp) (subst (λ y. places y ≤ room b) (sym ek) lr);
      others = h.others;
      order = h.order;
    }) z
