use Rattle.std.proofs.Common.{get_or, sym, ◌∙◌}
use Rattle.rows.specs.Rows.{closed}
use Rattle.bench.specs.Contents.{lookaheads, standings}
use Rattle.lpa_star.specs.Memory.{memory}
use Rattle.lpa_star.proofs.Tops.{empty_none, step_by, top_next}
use Rattle.lpa_star.proofs.repairing.take_step.Goals as goal

pub returns-in_err-place-clause-taken : goal.returns-in_err-place-clause-taken
returns-in_err-place-clause-taken g c = λ h.
    c.from_residual.ensures ∙ sym (empty_none (g.C.Chart.meaning c.args.chart.now) (memory g.C.Price.PriceKind.value c.args.bench.now) h c.in_err-place.ensures.place)

pub returns-clause-taken : goal.returns-clause-taken
returns-clause-taken g c = λ h.
    let t = c.in_ok-place.ensures in
    sym (top_next (g.C.Chart.meaning c.args.chart.now) (memory g.C.Price.PriceKind.value c.args.bench.now) h c.in_ok-place.place t.place.0 (t.least h.sorted))

pub returns-clause-standings : goal.returns-clause-standings
returns-clause-standings g c = λ l h.
    let v = g.C.Price.PriceKind.value in
    let b = c.args.bench.now in
    let p = c.in_ok-place.place in
    let t = c.in_ok-place.ensures in
    c.expand.ensures.standings t.place.1
    ∙ step_by (g.C.Chart.meaning c.args.chart.now) (standings v b) p (get_or (lookaheads v b) p closed) (h.right p (h.inside p t.place.0)).look
