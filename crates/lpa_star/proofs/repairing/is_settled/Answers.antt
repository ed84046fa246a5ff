use Rattle.std.proofs.Common.{◌<◌, length, Some, sym, ap, ◌∙◌, subst}
use Rattle.rows.specs.Rows.{closed}
use Rattle.bench.specs.Contents.{keys}
use Rattle.bench.specs.Keys.{key_of}
use Rattle.std.specs.Option.{option_map}
use Rattle.price.proofs.Ordered.{min_value}
use Rattle.lpa_star.specs.Memory.{memory}
use Rattle.lpa_star.proofs.Columns.{answers, keys_long, read}
use Rattle.lpa_star.proofs.Tops.{settled_empty, settled_top, unsettled}
use Rattle.lpa_star.proofs.repairing.is_settled.Goals as goal

pub returns-then-differ : goal.returns-then-differ
returns-then-differ g c = λ h.
    let m = g.C.Chart.meaning c.args.chart.now in
    let v = g.C.Price.PriceKind.value in
    unsettled m (memory v c.args.bench.now) h c.goal-goal.result (v c.standing_of-standing.result) (v c.kept_lookahead-lookahead.result) c.goal-goal.ensures
    (g.C.Chart.lawful c.args.chart.now).goal_in c.standing_of-standing.ensures c.kept_lookahead-lookahead.ensures (sym c.if-differ.true ∙ c.differ.ensures)

pub returns-in_default : goal.returns-in_default
returns-in_default g c = λ h.
    let m = g.C.Chart.meaning c.args.chart.now in
    let v = g.C.Price.PriceKind.value in
    settled_empty m (memory v c.args.bench.now) h c.goal-goal.result (v c.standing_of-standing.result) (v c.kept_lookahead-lookahead.result) c.goal-goal.ensures
    (g.C.Chart.lawful c.args.chart.now).goal_in c.standing_of-standing.ensures c.kept_lookahead-lookahead.ensures (sym c.if-differ.false ∙ c.differ.ensures) c.in_default.ensures.place

pub returns-in-None : goal.returns-in-None
returns-in-None g c = λ h.
    let v = g.C.Price.PriceKind.value in
    let b = c.args.bench.now in
    let p = c.in-Some.place in
    let l : p < length (keys v b) = subst (λ n. p < n) (sym (keys_long v b)) c.in-Some.ensures.place.1 in
    absurd (answers (keys v b) p (record { whole = closed; own = closed }) l c.in-None.ensures)

pub returns-in-Some-key : goal.returns-in-Some-key
returns-in-Some-key g c = λ h.
    let m = g.C.Chart.meaning c.args.chart.now in
    let v = g.C.Price.PriceKind.value in
    let b = c.args.bench.now in
    let p = c.in-Some.place in
    let t = c.in-Some.ensures in
    let j = key_of v c.in-Some-key.key in
    let k = key_of v c.key_for.result in
    let order = g.met.C.Price.PriceKind.ordered in
    let least = ap v c.min.ensures ∙ min_value v g.C.Price.Ord.cmp order c.standing_of-standing.result c.kept_lookahead-lookahead.result in
    c.at_least.ensures
    ∙ settled_top m (memory v b) h c.goal-goal.result (v c.standing_of-standing.result) (v c.kept_lookahead-lookahead.result) c.goal-goal.ensures
    (g.C.Chart.lawful c.args.chart.now).goal_in c.standing_of-standing.ensures c.kept_lookahead-lookahead.ensures (sym c.if-differ.false ∙ c.differ.ensures) p t.place.0
    (t.least h.sorted) (v c.min.result) k j least c.key_for.ensures
    (read (keys v b) p _ (option_map (key_of v) (Some c.in-Some-key.key)) c.in-Some-key.ensures)
