use Rattle.std.proofs.Common.{◌+◌, ◌<◌, ◌≤◌, sym, refl, ◌∙◌, subst}
use Rattle.std.proofs.lemmas.Bool.{both_ways}
use Rattle.chart.specs.Links.{left}
use Rattle.chart.specs.Meaning.{link_at, places}
use Rattle.chart.specs.Questions.{leads_out}
use Rattle.chart.proofs.Rising.{next_of, none_of}
use Rattle.lpa_star.specs.Memory.{memory}
use Rattle.lpa_star.specs.UpToDate.{to_of}
use Rattle.lpa_star.proofs.Kept.{keeps_then}
use Rattle.lpa_star.proofs.Successors.{led, led_nowhere, none_less, one_less, to_inside}
use Rattle.lpa_star.proofs.step.update_from.Goals as goal

pub loop-number-preserved-in-Some-led_to : goal.loop-number-preserved-in-Some-led_to
loop-number-preserved-in-Some-led_to g c =
    let m = g.C.Chart.meaning c.args.chart.now in
    let v = g.C.Price.PriceKind.value in
    let u = c.args.place in
    let l = c.loop-number in
    let inv = l.invariant in
    let n = c.in-Some.number in
    let p = c.in-Some-led_to.to in
    let a = c.args.bench.now in
    let b = l.bench in
    let d = c.update.new.bench in
    let e = c.update.ensures in
    let next = next_of (leads_out u) m.links inv.0 n (left g.C.Chart.meaning c.next.new.self) (sym inv.1 ∙ c.in-Some.ensures.steps) in
    let ep = led (link_at m n) u p c.in-Some-led_to.ensures in
    let inside : u < places m → p < places m =
    λ lu. subst (λ q. q < places m) (sym ep) (to_inside m.kind (places m) m.height u (link_at m n) lu ((g.C.Chart.lawful c.args.chart.now).links_law n)) in (
      n + 1,
      next.1,
      (e.lender.0 ∙ inv.2.0, (e.lender.1.0 ∙ inv.2.1.0, e.lender.1.1 ∙ inv.2.1.1)),
      e.standings ∙ inv.3,
      λ lu lr z. one_less m u (memory v b) (memory v d) p
          (record { standings = e.standings; right = e.right (inside lu) (subst (λ r. places m ≤ r) (sym inv.2.1.1) lr); others = e.others; order = e.order })
          (inside lu) inv.0 n next.0 ep (inv.4 lu lr z),
      λ lu. keeps_then (places m) a b d (inv.5 lu) (e.past (places m) (inside lu)),
    )

pub loop-number-preserved : goal.loop-number-preserved
loop-number-preserved g c =
    let m = g.C.Chart.meaning c.args.chart.now in
    let u = c.args.place in
    let inv = c.loop-number.invariant in
    let next = next_of (leads_out u) m.links inv.0 c.in-Some.number (left g.C.Chart.meaning c.next.new.self) (sym inv.1 ∙ c.in-Some.ensures.steps) in
    absurd (both_ways (leads_out u (link_at m c.in-Some.number)) (led_nowhere (link_at m c.in-Some.number) u c.in_default.ensures) next.0.2)

pub returns-clause-current : goal.returns-clause-current
returns-clause-current g c = λ lu lr z.
    let m = g.C.Chart.meaning c.args.chart.now in
    let v = g.C.Price.PriceKind.value in
    let u = c.args.place in
    let l = c.loop-number in
    let inv = l.invariant in
    let e = c.update-2.ensures in
    none_less m u (memory v l.bench) (memory v c.update-2.new.bench) u
    (record { standings = e.standings; right = e.right lu (subst (λ r. places m ≤ r) (sym inv.2.1.1) lr); others = e.others; order = e.order }) lu inv.0
    (none_of (leads_out u) m.links refl inv.0 (sym inv.1 ∙ c.in-None.ensures.steps.0)) refl (inv.4 lu lr z)
