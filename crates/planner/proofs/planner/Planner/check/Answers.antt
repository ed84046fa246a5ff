use Rattle.std.proofs.Common.{◌<◌, ◌≤◌, sym, ◌∙◌, arith}
use Rattle.chart.specs.Meaning.{places}
use Rattle.lpa_star.specs.Memory.{size}
use Rattle.lpa_star.proofs.Columns.{standings_long}
use Rattle.planner.specs.Stages.{state}
use Rattle.planner.proofs.FirstTests.{is_fit, is_short}
use Rattle.planner.proofs.planner.Planner.check.Goals as goal

pub returns-then-len-from : goal.returns-then-len-from
returns-then-len-from g c =
    let v = g.C.Price.PriceKind.value in
    let b = c.args.bench.now in
    let s = state g.C.Chart.meaning v c.args.self.now b in
    let l : size s.bench < places s.chart = omega (arith, c.if-len-from.true, c.len.ensures, c.places.ensures, standings_long v b) in
    is_short c.args.in_turn s c.if-not-in_turn.false (sym c.number.ensures ∙ c.if-number-self.false) l

pub returns : goal.returns
returns g c =
    let v = g.C.Price.PriceKind.value in
    let b = c.args.bench.now in
    let s = state g.C.Chart.meaning v c.args.self.now b in
    let l : places s.chart ≤ size s.bench = omega (arith, c.if-len-from.false, c.len.ensures, c.places.ensures, standings_long v b) in
    is_fit c.args.in_turn s c.if-not-in_turn.false (sym c.number.ensures ∙ c.if-number-self.false) l
