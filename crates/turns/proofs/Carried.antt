-- How a caller carries its own list of turns from call to call.
use Rattle.std.proofs.Common.{◌≡◌, [], ◌∷◌, Some, None, Option, sym, refl, ap, ◌∙◌, subst}
use Rattle.chart.specs.Lawful.{Lawful}
use Rattle.lpa_star.specs.Memory.{Memory}
use Rattle.turns.specs.History.{Reachable, following}
use Rattle.turns.specs.State.{State, idle, showing}
use Rattle.turns.specs.Turned.{Passed, Turned, Unless}
use Rattle.turns.specs.Turns.{Answer, Reason, Turn, begin, end_firm, end_loose, precheck, price, repair, reopen, trace}
use Rattle.turns.proofs.Follows.{entry, goes_on, keeps_bench, stays}
use Rattle.turns.proofs.Sound.{reachable_sound}
use Rattle.turns.proofs.Stages.{unless_none}

-- an idle planner over a lawful chart, whatever bench is at hand
pub first_hour : (s : State) → s.stage ≡ idle → Lawful s.chart → Reachable s
first_hour s e law = record { from = s; turns = []; first_hour = e; lawful = law; came = refl }

-- an idle planner that came here may take up another bench
pub takes_up : (s : State) (b : Memory) → Reachable s → s.stage ≡ idle → Reachable (showing b s)
takes_up s b r e = first_hour (showing b s) e (reachable_sound s r).lawful

-- after a turn on the bench at hand, its state follows
passed_follows : (s : State) (u : Turn) (a : Answer) (t : State) → precheck s u ≡ None → Passed s u a t → following (entry s s.bench u a t) ≡ t
passed_follows s begin a t e p = goes_on s s.bench begin a t refl e
passed_follows s (price k n x) a t e p = goes_on s s.bench (price k n x) a t refl e
passed_follows s (repair k) a t e p = goes_on s s.bench (repair k) a t refl e
passed_follows s (trace k long) a t e p = goes_on s s.bench (trace k long) a t refl e
passed_follows s (reopen k) a t e p = keeps_bench s s.bench (reopen k) a t refl ∙ ap (showing s.bench) p.1 ∙ sym p.1
passed_follows s (end_loose k) a t e p = keeps_bench s s.bench (end_loose k) a t refl ∙ ap (showing s.bench) p.1 ∙ sym p.1
passed_follows s (end_firm k) a t e p = keeps_bench s s.bench (end_firm k) a t refl ∙ ap (showing s.bench) p.1 ∙ sym p.1

turned_follows : (s : State) (u : Turn) (a : Answer) (t : State) (o : Option Reason) → precheck s u ≡ o → Turned s u a t → following (entry s s.bench u a t) ≡ t
turned_follows s u a t None e d = passed_follows s u a t e (unless_none (precheck s u) s a t (Passed s u a t) e d)
turned_follows s u a t (Some r) e d =
    let p = subst (λ (o : Option Reason). Unless o s a t (Passed s u a t)) e d in
    stays s s.bench u a t r e p.1 ∙ sym p.1

pub carried : (s : State) (u : Turn) (a : Answer) (t : State) → Reachable s → Turned s u a t → Reachable t
carried s u a t r d = record {
  from = r.from;
  turns = entry s s.bench u a t ∷ r.turns;
  first_hour = r.first_hour;
  lawful = r.lawful;
  came = (r.came, record { turned = d; own = λ _ _. refl }, sym (turned_follows s u a t (precheck s u) refl d));
}
