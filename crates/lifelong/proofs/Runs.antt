-- A run, step by step.
use Rattle.std.proofs.Common.{◌≡◌, ℕ, zero, suc, ◌+◌, true, false, List, Some, None, Option, sym, refl, ap, ◌∙◌, subst, ⊎_elim, arith}
use Rattle.std.proofs.lemmas.Bool.{cases_Bool, cond-false, cond-true}
use Rattle.rows.specs.Rows.{Price}
use Rattle.chart.specs.Meaning.{Meaning}
use Rattle.lifelong.specs.Step.{change_at, next, settled, step}
use Rattle.lifelong.specs.Run.{Expansion, Run, RunsJoin, after, run, stopped, taking, then_run}

abbrev pub expansion : Meaning → List Price → ℕ → Expansion
expansion m gs p = record { place = p; change = change_at m gs p }

module _ (m : Meaning) (gs : List Price) where
  pub run_none : run m 0 gs ≡ stopped gs
  unfolding run
  run_none = refl

  pub run_settled : (n : ℕ) → settled m gs ≡ true → run m n gs ≡ stopped gs
  unfolding run
  run_settled zero e = refl
  run_settled (suc n) e = cond-true (settled m gs) (stopped gs) (taking m gs (next m gs) (λ p. run m n (step m gs p))) e

  onward : (n : ℕ) → settled m gs ≡ false → run m (suc n) gs ≡ taking m gs (next m gs) (λ p. run m n (step m gs p))
  unfolding run
  onward n e = cond-false (settled m gs) (stopped gs) (taking m gs (next m gs) (λ p. run m n (step m gs p))) e

  pub run_stuck : (n : ℕ) → settled m gs ≡ false → next m gs ≡ None → run m n gs ≡ stopped gs
  run_stuck zero e d = run_none
  run_stuck (suc n) e d = onward n e ∙ ap (λ o. taking m gs o (λ p. run m n (step m gs p))) d

  pub run_step : (n p : ℕ) → settled m gs ≡ false → next m gs ≡ Some p → run m (suc n) gs ≡ after (expansion m gs p) (run m n (step m gs p))
  run_step n p e d = onward n e ∙ ap (λ o. taking m gs o (λ p. run m n (step m gs p))) d

-- A run either stops at once or takes a step: an induction along the steps of runs.
pub data Ran (m : Meaning) : ℕ → List Price → Run → Type 0 where
  spent : {gs : List Price} → Ran m 0 gs (stopped gs)
  stops : {n : ℕ} {gs : List Price} → settled m gs ≡ true → Ran m n gs (stopped gs)
  stuck : {n : ℕ} {gs : List Price} → next m gs ≡ None → Ran m n gs (stopped gs)
  takes : {n : ℕ} {gs : List Price} {r : Run} (p : ℕ) → settled m gs ≡ false → next m gs ≡ Some p → Ran m n (step m gs p) r →
      Ran m (suc n) gs (after (expansion m gs p) r)

pub run_ran : (m : Meaning) (n : ℕ) (gs : List Price) → Ran m n gs (run m n gs)
run_ran m zero gs = subst (Ran m 0 gs) (sym (run_none m gs)) spent
run_ran m (suc n) gs = ⊎_elim
    (λ (t : settled m gs ≡ true). subst (Ran m (suc n) gs) (sym (run_settled m gs (suc n) t)) (stops t))
    (λ (f : settled m gs ≡ false). on f (λ p. run_ran m n (step m gs p)) (next m gs) refl) (cases_Bool (settled m gs))
  where
    on : settled m gs ≡ false → ((p : ℕ) → Ran m n (step m gs p) (run m n (step m gs p))) → (o : Option ℕ) → next m gs ≡ o → Ran m (suc n) gs (run m (suc n) gs)
    on f ih None e = subst (Ran m (suc n) gs) (sym (run_stuck m gs (suc n) f e)) (stuck e)
    on f ih (Some p) e = subst (Ran m (suc n) gs) (sym (run_step m gs n p f e)) (takes p f e (ih p))

halt : (m : Meaning) (a b : ℕ) (gs : List Price) → ((n : ℕ) → run m n gs ≡ stopped gs) → run m (a + b) gs ≡ then_run (run m a gs) (run m b (run m a gs).left)
halt m a b gs h = h (a + b) ∙ sym (h b) ∙ ap (λ r. then_run r (run m b r.left)) (sym (h a))

pub runs_join : RunsJoin
runs_join m zero b gs =
    let z : 0 + b ≡ b = omega arith in
    ap (λ n. run m n gs) z ∙ ap (λ r. then_run r (run m b r.left)) (sym (run_none m gs))
runs_join m (suc a) b gs = ⊎_elim
    (λ (t : settled m gs ≡ true). halt m (suc a) b gs (λ n. run_settled m gs n t))
    (λ (f : settled m gs ≡ false). on f (λ p. runs_join m a b (step m gs p)) (next m gs) refl) (cases_Bool (settled m gs))
  where
    on : settled m gs ≡ false → ((p : ℕ) → run m (a + b) (step m gs p) ≡ then_run (run m a (step m gs p)) (run m b (run m a (step m gs p)).left)) →
        (o : Option ℕ) → next m gs ≡ o → run m (suc a + b) gs ≡ then_run (run m (suc a) gs) (run m b (run m (suc a) gs).left)
    on f ih None e = halt m (suc a) b gs (λ n. run_stuck m gs n f e)
    on f ih (Some p) e =
        let z : suc a + b ≡ suc (a + b) = omega arith in
        ap (λ n. run m n gs) z ∙ run_step m gs (a + b) p f e ∙ ap (after (expansion m gs p)) (ih p)
        ∙ ap (λ r. then_run r (run m b r.left)) (sym (run_step m gs a p f e))
