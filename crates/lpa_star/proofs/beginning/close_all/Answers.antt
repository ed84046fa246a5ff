use Rattle.std.proofs.Common.{◌≡◌, ◌<◌, ◌≤◌, set, refl, ap, ◌∙◌, arith}
use Rattle.bench.specs.Contents.{lookaheads, room, standings}
use Rattle.lpa_star.proofs.Beginnings.{closed_more, closed_none}
use Rattle.lpa_star.proofs.Columns.{lookaheads_long, standings_long, written}
use Rattle.lpa_star.proofs.beginning.close_all.Goals as goal

pub loop-place-init : goal.loop-place-init
loop-place-init g c =
    let v = g.C.Price.PriceKind.value in
    let b = c.clear.new.self in
    ((refl, (refl, refl)), closed_none (standings v b), closed_none (lookaheads v b), c.clear.ensures.queue, c.clear.ensures.order, λ n h. refl)

pub loop-place-preserved : goal.loop-place-preserved
loop-place-preserved g c =
    let v = g.C.Price.PriceKind.value in
    let a = c.clear.new.self in
    let l = c.loop-place in
    let inv = l.invariant in
    let b = l.bench in
    let p = l.place in
    let d = c.put_standing.new.self in
    let f = c.put_lookahead.new.self in
    let e = c.put_standing.ensures in
    let h = c.put_lookahead.ensures in
    let eg : standings v d ≡ set (standings v b) p (v c.closed.result) =
    written c.put_standing.result p (room b) (standings v b) (standings v d) (v c.closed.result) e.answer (standings_long v b) e.written (λ z. ap (standings v) (e.refused z)) in
    let el : lookaheads v f ≡ set (lookaheads v d) p (v c.closed-in-loop-place.result) =
    written c.put_lookahead.result p (room d) (lookaheads v d) (lookaheads v f) (v c.closed-in-loop-place.result) h.answer (lookaheads_long v d) h.written
    (λ z. ap (lookaheads v) (h.refused z)) in (
      (h.lender.0 ∙ e.lender.0 ∙ inv.0.0, (h.lender.1.0 ∙ e.lender.1.0 ∙ inv.0.1.0, h.lender.1.1 ∙ e.lender.1.1 ∙ inv.0.1.1)),
      h.rest.0 ∙ eg ∙ (λ i. set (inv.1 i) p (c.closed.ensures i)) ∙ closed_more p (standings v a),
      el ∙ (λ i. set ((e.rest.0 ∙ inv.2) i) p (c.closed-in-loop-place.ensures i)) ∙ closed_more p (lookaheads v a),
      λ q w. inv.3 q ((e.queue q).1 ((h.queue q).1 w)),
      h.order (e.order inv.4),
      λ n k. let lp : p < n = omega arith in let lq : p ≤ n = omega arith in h.past n lp ∙ e.past n lp ∙ inv.5 n lq,
    )
