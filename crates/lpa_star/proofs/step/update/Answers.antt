use Rattle.std.proofs.Common.{◌≡◌, ◌<◌, true, ltb, set, sym, ap, ◌∙◌, subst, arith}
use Rattle.std.proofs.lemmas.Bool.{and_from, lt-ltb}
use Rattle.bench.specs.Contents.{Waits, keys, lookaheads, room, standings}
use Rattle.bench.specs.Keys.{key_of}
use Rattle.price.proofs.Ordered.{min_value}
use Rattle.lpa_star.specs.UpToDate.{Right}
use Rattle.lpa_star.proofs.Columns.{keys_long, lookaheads_long, written}
use Rattle.lpa_star.proofs.Keys.{key_by, uneven_by}
use Rattle.lpa_star.proofs.Right.{right_even, right_uneven}
use Rattle.lpa_star.proofs.step.update.Goals as goal

pub returns-then-differ-clause-right : goal.returns-then-differ-clause-right
returns-then-differ-clause-right g c = λ lp lr.
    let m = g.C.Chart.meaning c.args.chart.now in
    let v = g.C.Price.PriceKind.value in
    let p = c.args.place in
    let b = c.args.bench.now in
    let d = c.put_lookahead.new.self in
    let f = c.enqueue.new.self in
    let gs = standings v b in
    let e = c.put_lookahead.ensures in
    let h = c.enqueue.ensures in
    let a = v c.lookahead_of-lookahead.result in
    let ea = c.lookahead_of-lookahead.ensures in
    let s = v c.standing_of-standing.result in
    let es = c.standing_of-standing.ensures in
    let k = key_of v c.key_for-key.result in
    let order = g.met.C.Price.PriceKind.ordered in
    let eg : standings v f ≡ gs = h.rest.0 ∙ e.rest.0 in
    let el : lookaheads v f ≡ set (lookaheads v b) p a =
    h.rest.1 ∙ written c.put_lookahead.result p (room b) (lookaheads v b) (lookaheads v d) a e.answer (lookaheads_long v b) e.written (λ z. ap (lookaheads v) (e.refused z)) in
    let few = (g.C.Chart.lawful c.args.chart.now).places_few in
    let l : p < room b = omega (arith, lp, lr) in
    let low : p < 4096 = omega (arith, lp, few) in
    let wide : p < room d = subst (λ n. p < n) (sym e.lender.1.1) l in
    let t : c.enqueue.result ≡ true = h.answer ∙ and_from (ltb p (room d)) (ltb p 4096) (lt-ltb p (room d) wide) (lt-ltb p 4096 low) in
    let least = ap v c.min.ensures ∙ min_value v g.C.Price.Ord.cmp order c.standing_of-standing.result c.lookahead_of-lookahead.result in
    subst (λ xs. Right m xs (lookaheads v f) (keys v f) (Waits f) p) (sym eg)
    (right_uneven m gs (lookaheads v b) (lookaheads v f) p a (subst (λ n. p < n) (sym (lookaheads_long v b)) l) el ea (keys v d) (keys v f) (Waits f) k
    (subst (λ n. p < n) (sym (keys_long v d)) wide) (h.written t)
    (key_by m gs p s a es ea (v c.min.result) k least c.key_for-key.ensures) (h.queue.1 t)
    (sym (uneven_by m gs p s a es ea) ∙ sym c.differ.ensures ∙ c.if-differ.true))

pub returns-clause-right : goal.returns-clause-right
returns-clause-right g c = λ lp lr.
    let m = g.C.Chart.meaning c.args.chart.now in
    let v = g.C.Price.PriceKind.value in
    let p = c.args.place in
    let b = c.args.bench.now in
    let d = c.put_lookahead.new.self in
    let f = c.dequeue.new.self in
    let gs = standings v b in
    let e = c.put_lookahead.ensures in
    let h = c.dequeue.ensures in
    let a = v c.lookahead_of-lookahead.result in
    let ea = c.lookahead_of-lookahead.ensures in
    let s = v c.standing_of-standing.result in
    let es = c.standing_of-standing.ensures in
    let eg : standings v f ≡ gs = h.rest.0 ∙ e.rest.0 in
    let el : lookaheads v f ≡ set (lookaheads v b) p a =
    h.rest.1.0 ∙ written c.put_lookahead.result p (room b) (lookaheads v b) (lookaheads v d) a e.answer (lookaheads_long v b) e.written (λ z. ap (lookaheads v) (e.refused z)) in
    let l : p < room b = omega (arith, lp, lr) in
    subst (λ xs. Right m xs (lookaheads v f) (keys v f) (Waits f) p) (sym eg)
    (right_even m gs (lookaheads v b) (lookaheads v f) p a (subst (λ n. p < n) (sym (lookaheads_long v b)) l) el ea (keys v f) (Waits f) h.queue.1
    (sym (uneven_by m gs p s a es ea) ∙ sym c.differ.ensures ∙ c.if-differ.false))

pub returns-clause-order : goal.returns-clause-order
returns-clause-order g c = λ o. c.dequeue.ensures.order (c.put_lookahead.ensures.order o)
