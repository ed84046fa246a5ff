use Rattle.std.proofs.Common.{◌≡◌, Bool, List, None, sym, refl, ap, ◌∙◌, subst}
use Rattle.std.proofs.lemmas.Bool.{cond-false}
use Rattle.rows.specs.Rows.{Price}
use Rattle.chart.specs.Meaning.{places}
use Rattle.lifelong.specs.Run.{repair as defined_repair}
use Rattle.lifelong.specs.Standings.{standing_at}
use Rattle.lifelong.specs.Step.{settled}
use Rattle.lpa_star.proofs.Columns.{standings_long}
use Rattle.turns.specs.State.{loose}
use Rattle.turns.specs.Turned.{Turned}
use Rattle.turns.specs.Turns.{plain, precheck, refused, repair as repair_turn, repairs, with_bench}
use Rattle.turns.proofs.Promised.{promised}
use Rattle.turns.proofs.Stages.{ticket_is}
use Rattle.planner.specs.Stages.{at_stage_of, state}
use Rattle.planner.specs.declared.parts.Stage.TheVariants.{Firm}
use Rattle.planner.proofs.Accepted.{accept, as_answered, roomy, same_past}
use Rattle.planner.proofs.planner.Planner.repair_if.Goals as goal

pub returns-in_default-repair-clause-turned : goal.returns-in_default-repair-clause-turned
returns-in_default-repair-clause-turned g c = λ i.
    let v = g.C.Price.PriceKind.value in
    let b = c.args.bench.now in
    let d = c.repair.new.bench in
    let s = state g.C.Chart.meaning v c.args.self.now b in
    let m = s.chart in
    let gs = s.bench.standings in
    let u = repair_turn c.args.ticket.number in
    let h = c.in_default-repair.ensures in
    let e : None ≡ precheck s u = c.in_default.ensures ∙ ap (λ (ok : Bool). with_bench ok s) i in
    let wide = roomy v s _ b refl e in
    accept (precheck s u) s _ _ _ e (record {
      answer = (refl, refl);
      number = refl;
      chart = refl;
      bench_number = h.lender.1.0;
      once = d.back;
      bench_size = standings_long v d ∙ h.lender.1.1 ∙ sym (standings_long v b);
      defined = λ up. record {
        answer = sym (cond-false (settled m (defined_repair m gs).left) _ _ (ap (settled m) (sym (h.standings wide up)) ∙ sym (h.settled wide up)));
        standings = h.standings wide up;
        current = h.current wide up;
        past = same_past v (places m) b d (h.past up.inside).0;
      };
    })

pub returns-in_default-repair-clause-promise : goal.returns-in_default-repair-clause-promise
returns-in_default-repair-clause-promise g c = λ i r k.
    let v = g.C.Price.PriceKind.value in
    let s = state g.C.Chart.meaning v c.args.self.now c.args.bench.now in
    (promised s r).0 c.args.ticket.number (refused (plain 11)) (state g.C.Chart.meaning v c.args.self.now c.repair.new.bench) k (returns-in_default-repair-clause-turned g c i)

pub returns-clause-turned : goal.returns-clause-turned
returns-clause-turned g c = λ i.
    let v = g.C.Price.PriceKind.value in
    let b = c.args.bench.now in
    let d = c.repair.new.bench in
    let s = state g.C.Chart.meaning v c.args.self.now b in
    let t = state g.C.Chart.meaning v (at_stage_of Firm c.args.self.now) d in
    let m = s.chart in
    let gs = s.bench.standings in
    let k = c.args.ticket.number in
    let u = repair_turn k in
    let h = c.in-Ok.ensures in
    let n = c.in-Ok.steps in
    let x = v c.goal_standing-distance.result in
    let ex = c.goal_standing-distance.ensures in
    let q = c.firm_up.ensures in
    let e : None ≡ precheck s u = c.in_default.ensures ∙ ap (λ (ok : Bool). with_bench ok s) i in
    let wide = roomy v s _ b refl e in
    let ek : k ≡ s.number = ticket_is loose s k (sym e) in
    let z : Turned s u (repairs k x n) t =
    accept (precheck s u) s _ _ _ e (record {
      answer = (ek, ex, h.few, refl);
      number = refl;
      chart = refl;
      bench_number = h.lender.1.0;
      once = d.back;
      bench_size = standings_long v d ∙ h.lender.1.1 ∙ sym (standings_long v b);
      defined = λ up. record {
        answer = as_answered s k x n ek (ex ∙ ap (λ (hs : List Price). standing_at hs m.goal) (h.standings wide up)) (h.steps wide up)
            (ap (settled m) (sym (h.standings wide up)) ∙ sym (h.settled wide up));
        standings = h.standings wide up;
        current = h.current wide up;
        past = same_past v (places m) b d (h.past up.inside).0;
      };
    }) in
    let a = repairs c.firm_up.result.ticket.number (v c.firm_up.result.distance) c.firm_up.result.steps in
    let ea : repairs k x n ≡ a = sym (λ j. repairs (q.given.0 j) (v (q.given.1.0 j)) (q.given.1.1 j)) in
    subst (λ p. Turned s u a (state g.C.Chart.meaning v p d)) (sym q.after) (subst (λ y. Turned s u y t) ea z)

pub returns-clause-promise : goal.returns-clause-promise
returns-clause-promise g c = λ i r y.
    let v = g.C.Price.PriceKind.value in
    let s = state g.C.Chart.meaning v c.args.self.now c.args.bench.now in
    (promised s r).0 c.args.ticket.number (repairs c.firm_up.result.ticket.number (v c.firm_up.result.distance) c.firm_up.result.steps)
    (state g.C.Chart.meaning v c.firm_up.new.self c.repair.new.bench) y (returns-clause-turned g c i)
