-- How a plan ends, under a ticket of either kind.
use Rattle.std.proofs.Common.{◌≡◌, Bool, true, false, sym, refl, subst}
use Rattle.turns.specs.State.{State, at_stage, idle}
use Rattle.turns.specs.Turned.{Passed, Turned, Unless}
use Rattle.turns.specs.Turns.{ends, end_firm, end_loose, in_turn, plain, refused, without_bench}
use Rattle.planner.specs.Answers.{end_with}
use Rattle.planner.specs.declared.parts.Ticket.{Ticket}
use Rattle.planner.specs.declared.parts.Ticket.TheVariants as ticket

pub not_ended : (s : State) (t : Ticket) → in_turn s (end_with t) ≡ false → Turned s (end_with t) (refused (plain 10)) s
not_ended s (ticket.Loose k) e = subst (λ (ok : Bool). Unless (without_bench ok) s (refused (plain 10)) s (Passed s (end_loose k.number) (refused (plain 10)) s)) (sym e) (refl, refl)
not_ended s (ticket.Firm k) e = subst (λ (ok : Bool). Unless (without_bench ok) s (refused (plain 10)) s (Passed s (end_firm k.number) (refused (plain 10)) s)) (sym e) (refl, refl)

pub is_ended : (s : State) (t : Ticket) → in_turn s (end_with t) ≡ true → Turned s (end_with t) ends (at_stage idle s)
is_ended s (ticket.Loose k) e = subst (λ (ok : Bool). Unless (without_bench ok) s ends (at_stage idle s) (Passed s (end_loose k.number) ends (at_stage idle s))) (sym e) (refl, refl)
is_ended s (ticket.Firm k) e = subst (λ (ok : Bool). Unless (without_bench ok) s ends (at_stage idle s) (Passed s (end_firm k.number) ends (at_stage idle s))) (sym e) (refl, refl)
