use Rattle.std.proofs.Common.{false, sym, refl, ap, ◌∙◌, subst}
use Rattle.std.proofs.lemmas.Bool.{both_ways}
use Rattle.turns.specs.Turned.{Turned}
use Rattle.turns.specs.Turns.{ends}
use Rattle.planner.specs.Answers.{end_with}
use Rattle.planner.specs.Stages.{state_with}
use Rattle.planner.proofs.Ended.{is_ended, not_ended}
use Rattle.planner.proofs.planner.Planner.end_if.Goals as goal

pub returns-then-not-in_turn : goal.returns-then-not-in_turn
returns-then-not-in_turn g c = record {
  turned = λ b i. not_ended (state_with g.C.Chart.meaning c.args.self.now b) c.args.ticket (sym i ∙ c.if-not-in_turn.true);
  same = λ _. refl;
  back = refl;
  chart = refl;
}

pub returns : goal.returns
returns g c = record {
  turned = λ b i. subst (λ p. Turned (state_with g.C.Chart.meaning c.args.self.now b) (end_with c.args.ticket) ends (state_with g.C.Chart.meaning p b)) (sym c.rest.ensures)
      (is_ended (state_with g.C.Chart.meaning c.args.self.now b) c.args.ticket (sym i ∙ c.if-not-in_turn.false));
  same = λ z. absurd (both_ways false refl z);
  back = tt;
  chart = ap (λ p. p.chart) c.rest.ensures;
}
