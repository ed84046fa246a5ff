use Rattle.std.proofs.Common.{◌≡◌, Bool, false, None, refl, ap, ◌∙◌}
use Rattle.std.proofs.lemmas.Bool.{both_ways}
use Rattle.std.specs.Option.{option_map}
use Rattle.chart.specs.Meaning.{places, priced}
use Rattle.chart.specs.Refusals.{refusal}
use Rattle.lpa_star.proofs.Repricings.{not_refused}
use Rattle.turns.specs.Turns.{by_chart, precheck, price as price_turn, with_bench}
use Rattle.planner.specs.Stages.{state}
use Rattle.planner.proofs.Accepted.{accept, roomy, same_past}
use Rattle.planner.proofs.planner.Planner.price_if.Goals as goal

pub returns : goal.returns
returns g c =
    let v = g.C.Price.PriceKind.value in
    let b = c.args.bench.now in
    let d = c.reprice.new.bench in
    let n = c.args.link in
    let x = v c.args.price in
    let s = state g.C.Chart.meaning v c.args.self.now b in
    let m = s.chart in
    let h = c.in_ok-reprice.ensures in
    record {
      turned = λ k t.
          let u = price_turn k n x in
          let e : None ≡ precheck s u = c.in_ok-check.ensures ∙ ap (λ (ok : Bool). with_bench ok s) t in
          accept (precheck s u) s _ _ _ e (accept (option_map by_chart (refusal m n x)) s _ _ _ (ap (option_map by_chart) h.answer) (record {
            answer = refl;
            number = refl;
            stage = refl;
            chart = h.after ∙ not_refused (refusal m n x) m (priced m n x) h.answer;
            bench_number = h.lender.1.0;
            standings = h.standings;
            others = h.others;
            current = λ z. h.current (roomy v s _ b refl e) z;
            once = d.back;
            past = λ z. same_past v (places m) b d (h.past z.inside).0;
          }));
      same = λ z. absurd (both_ways false refl z);
      lender = h.lender.0;
    }
