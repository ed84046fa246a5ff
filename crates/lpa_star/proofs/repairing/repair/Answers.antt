use Rattle.std.proofs.Common.{◌≡◌, ◌-◌, ◌*◌, ◌<◌, ◌≤◌, sym, ap, ◌∙◌, subst, arith}
use Rattle.chart.specs.Meaning.{places}
use Rattle.bench.specs.Contents.{room}
use Rattle.lifelong.proofs.Runs.{run_settled, run_stuck}
use Rattle.lpa_star.specs.Memory.{memory}
use Rattle.lpa_star.specs.Steps.{after_step}
use Rattle.lpa_star.proofs.Kept.{keeps_then}
use Rattle.lpa_star.proofs.Progress.{all_counted, all_left, done_on, none_of_some, spent}
use Rattle.lpa_star.proofs.repairing.repair.Goals as goal

pub returns-then-is_settled-clause-steps : goal.returns-then-is_settled-clause-steps
returns-then-is_settled-clause-steps g c = λ lr z.
    let m = g.C.Chart.meaning c.args.chart.now in
    let v = g.C.Price.PriceKind.value in
    let l = c.loop-steps in
    let a = memory v c.args.bench.now in
    let b = memory v l.bench in
    let h = l.invariant.3 lr z in
    all_counted m a b l.steps h (run_settled m b.standings (2 * places m - l.steps) (sym (c.is_settled.ensures h.current) ∙ c.if-is_settled.true))

pub returns-then-is_settled-clause-standings : goal.returns-then-is_settled-clause-standings
returns-then-is_settled-clause-standings g c = λ lr z.
    let m = g.C.Chart.meaning c.args.chart.now in
    let v = g.C.Price.PriceKind.value in
    let l = c.loop-steps in
    let a = memory v c.args.bench.now in
    let b = memory v l.bench in
    let h = l.invariant.3 lr z in
    all_left m a b l.steps h (run_settled m b.standings (2 * places m - l.steps) (sym (c.is_settled.ensures h.current) ∙ c.if-is_settled.true))

pub returns-then-is_none-clause-steps : goal.returns-then-is_none-clause-steps
returns-then-is_none-clause-steps g c = λ lr z.
    let m = g.C.Chart.meaning c.args.chart.now in
    let v = g.C.Price.PriceKind.value in
    let l = c.loop-steps in
    let a = memory v c.args.bench.now in
    let b = memory v l.bench in
    let h = l.invariant.3 lr z in
    let none = none_of_some c.take_step.result c.if-is_none.ensures in
    all_counted m a b l.steps h
    (run_stuck m b.standings (2 * places m - l.steps) (sym (c.is_settled.ensures h.current) ∙ c.if-is_settled.false) (sym (c.take_step.ensures.taken h.current) ∙ none))

pub returns-then-is_none-clause-standings : goal.returns-then-is_none-clause-standings
returns-then-is_none-clause-standings g c = λ lr z.
    let m = g.C.Chart.meaning c.args.chart.now in
    let v = g.C.Price.PriceKind.value in
    let l = c.loop-steps in
    let a = memory v c.args.bench.now in
    let b = memory v l.bench in
    let h = l.invariant.3 lr z in
    let e = c.take_step.ensures in
    let none = none_of_some c.take_step.result c.if-is_none.ensures in
    let wide : places m ≤ room l.bench = subst (λ r. places m ≤ r) (sym l.invariant.0.1.1) lr in
    e.standings wide h.current ∙ ap (after_step m b.standings) none
    ∙ all_left m a b l.steps h (run_stuck m b.standings (2 * places m - l.steps) (sym (c.is_settled.ensures h.current) ∙ c.if-is_settled.false) (sym (e.taken h.current) ∙ none))

pub returns-then-is_settled-2-clause-steps : goal.returns-then-is_settled-2-clause-steps
returns-then-is_settled-2-clause-steps g c = λ lr z.
    let m = g.C.Chart.meaning c.args.chart.now in
    let v = g.C.Price.PriceKind.value in
    let l = c.loop-steps in
    let a = memory v c.args.bench.now in
    let b = memory v l.bench in
    let h = l.invariant.3 lr z in
    let t : 2 * places m ≤ l.steps = omega (arith, c.loop-steps-test.false, c.step_limit-limit.ensures) in
    let last : c.step_limit-limit.result ≡ l.steps = omega (arith, c.loop-steps-test.false, c.loop-steps.invariant.1, c.loop-steps.invariant.2) in
    last ∙ all_counted m a b l.steps h (spent m a b l.steps h t)

pub returns-then-is_settled-2-clause-standings : goal.returns-then-is_settled-2-clause-standings
returns-then-is_settled-2-clause-standings g c = λ lr z.
    let m = g.C.Chart.meaning c.args.chart.now in
    let v = g.C.Price.PriceKind.value in
    let l = c.loop-steps in
    let a = memory v c.args.bench.now in
    let b = memory v l.bench in
    let h = l.invariant.3 lr z in
    let t : 2 * places m ≤ l.steps = omega (arith, c.loop-steps-test.false, c.step_limit-limit.ensures) in
    all_left m a b l.steps h (spent m a b l.steps h t)

pub returns-clause-steps : goal.returns-clause-steps
returns-clause-steps g c = λ lr z.
    let m = g.C.Chart.meaning c.args.chart.now in
    let v = g.C.Price.PriceKind.value in
    let l = c.loop-steps in
    let a = memory v c.args.bench.now in
    let b = memory v l.bench in
    let h = l.invariant.3 lr z in
    let t : 2 * places m ≤ l.steps = omega (arith, c.loop-steps-test.false, c.step_limit-limit.ensures) in
    let last : c.step_limit-limit.result ≡ l.steps = omega (arith, c.loop-steps-test.false, c.loop-steps.invariant.1, c.loop-steps.invariant.2) in
    last ∙ all_counted m a b l.steps h (spent m a b l.steps h t)

pub returns-clause-standings : goal.returns-clause-standings
returns-clause-standings g c = λ lr z.
    let m = g.C.Chart.meaning c.args.chart.now in
    let v = g.C.Price.PriceKind.value in
    let l = c.loop-steps in
    let a = memory v c.args.bench.now in
    let b = memory v l.bench in
    let h = l.invariant.3 lr z in
    let t : 2 * places m ≤ l.steps = omega (arith, c.loop-steps-test.false, c.step_limit-limit.ensures) in
    all_left m a b l.steps h (spent m a b l.steps h t)

pub loop-steps-preserved : goal.loop-steps-preserved
loop-steps-preserved g c =
    let m = g.C.Chart.meaning c.args.chart.now in
    let v = g.C.Price.PriceKind.value in
    let l = c.loop-steps in
    let inv = l.invariant in
    let b = memory v l.bench in
    let d = memory v c.take_step.new.bench in
    let e = c.take_step.ensures in
    let t : l.steps < 2 * places m = omega (arith, c.loop-steps-test.true, c.step_limit-limit.ensures) in (
      (e.lender.0 ∙ inv.0.0, (e.lender.1.0 ∙ inv.0.1.0, e.lender.1.1 ∙ inv.0.1.1)),
      c.step_limit-limit.ensures,
      omega arith,
      λ lr z.
          let h = inv.3 lr z in
          let wide : places m ≤ room l.bench = subst (λ r. places m ≤ r) (sym inv.0.1.1) lr in
          done_on m (memory v c.args.bench.now) b l.steps h d c.take_step.result c.if-is_none.ensures t (sym (c.is_settled.ensures h.current) ∙ c.if-is_settled.false) (sym (e.taken h.current))
          (e.standings wide h.current) (e.current wide h.current),
      keeps_then (places m) c.args.bench.now l.bench c.take_step.new.bench inv.4 e.past,
    )
