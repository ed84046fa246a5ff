use Rattle.std.proofs.Common.{◌≡◌, Bool, None, sym, refl, ap, ◌∙◌, subst}
use Rattle.chart.specs.Meaning.{places}
use Rattle.turns.specs.Turned.{Turned}
use Rattle.turns.specs.Turns.{begin as begin_turn, gives_loose, precheck, with_bench}
use Rattle.planner.specs.Stages.{at_stage_of, state}
use Rattle.planner.specs.declared.parts.Stage.TheVariants.{Loose}
use Rattle.planner.proofs.Accepted.{accept, roomy, same_past}
use Rattle.planner.proofs.planner.Planner.begin_if.Goals as goal

pub returns-clause-turned : goal.returns-clause-turned
returns-clause-turned g c = λ t.
    let v = g.C.Price.PriceKind.value in
    let p = c.args.self.now in
    let b = c.args.bench.now in
    let d = c.begin.new.bench in
    let s = state g.C.Chart.meaning v p b in
    let h = c.begin.ensures in
    let k = c.loosen.ensures in
    let e : None ≡ precheck s begin_turn = c.in_ok-check.ensures ∙ ap (λ (ok : Bool). with_bench ok s) t in
    let z : Turned s begin_turn (gives_loose p.number) (state g.C.Chart.meaning v (at_stage_of Loose p) d) = accept (precheck s begin_turn) s _ _ _ e (record {
      answer = refl;
      number = refl;
      stage = refl;
      chart = refl;
      bench_number = h.lender.1.0;
      standings = h.standings;
      current = h.current (roomy v s _ b refl e);
      once = d.back;
      past = same_past v (places s.chart) b d h.past;
    }) in
    subst (λ q. Turned s begin_turn (gives_loose c.loosen.result.number) (state g.C.Chart.meaning v q d)) (sym k.after)
    (subst (λ n. Turned s begin_turn (gives_loose n) (state g.C.Chart.meaning v (at_stage_of Loose p) d)) (sym k.ticket) z)
