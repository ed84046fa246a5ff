-- Whole runs: what is kept along them, that no place is lowered or raised twice, and that a repair ends settled.
use Rattle.std.proofs.Common.{◌≡◌, ℕ, suc, ◌+◌, ◌*◌, ◌<◌, ◌≤◌, Bool, true, false, cond, ◌⊎◌, List, length, Some, None, Option, refl, ap, ◌∙◌, subst, inl, inr, ⊎_elim, arith}
use Rattle.std.proofs.lemmas.List.{length-append}
use Rattle.std.proofs.lemmas.Bool.{both_ways, cases_Bool, cases_eq, cond-false, cond-true}
use Rattle.rows.specs.Rows.{Price, closed, less}
use Rattle.rows.specs.Keys.{key_less}
use Rattle.rows.proofs.Keys.{key_chain}
use Rattle.chart.specs.Lawful.{Lawful}
use Rattle.chart.specs.Meaning.{Meaning, places}
use Rattle.chart.specs.Routes.{Among, Distinct, TrueDistance}
use Rattle.chart.proofs.Pigeonhole.{pigeonhole_by, map_among}
use Rattle.lifelong.specs.Standings.{key, lookahead, standing_at}
use Rattle.lifelong.specs.Step.{Change, Taken, lowered, next, raised, settled, step}
use Rattle.lifelong.specs.Run.{Expansion, Run, expanded, how_often, repair, run}
use Rattle.lifelong.specs.Bounds.{Bounds}
use Rattle.lifelong.proofs.Counts.{change_below, code, distinct_twice, one_code, one_or_none}
use Rattle.lifelong.proofs.Agreement.{else_below, is_settled, next_taken, none_even, step_elsewhere}
use Rattle.lifelong.proofs.Runs.{Ran, expansion, takes, run_ran, run_step, runs_join, spent, stops, stuck}
use Rattle.lifelong.proofs.Steps.{step_bounds, taken_lowered, taken_raised, true_not_taken}
use Rattle.lifelong.proofs.Rising.{next_key}

not_raised : (b : Bool) → ◌≡◌ {A = Change} raised (cond b lowered raised) → b ≡ true → ⊥
not_raised b e t = let z : ◌≡◌ {A = ℕ} 1 0 = ap one_or_none (e ∙ cond-true b lowered raised t) in omega arith

module _ (m : Meaning) (law : Lawful m) where
  pub ran_bounds : {n : ℕ} {gs : List Price} {r : Run} → Ran m n gs r → Bounds m gs → Bounds m r.left
  ran_bounds spent b = b
  ran_bounds (stops s) b = b
  ran_bounds (stuck e) b = b
  ran_bounds (takes {gs = gs} p f e w) b = ran_bounds w (step_bounds m law gs b p e)

  -- a true standing is not expanded
  true_kept : {n : ℕ} {gs : List Price} {r : Run} → Ran m n gs r → Bounds m gs → (x : ℕ) → TrueDistance m x (standing_at gs x) → Among x (expanded r) → ⊥
  true_kept spent b x d i = i
  true_kept (stops s) b x d i = i
  true_kept (stuck e) b x d i = i
  true_kept (takes {gs = gs} {r = r} p f e w) b x d i =
      let no : x ≡ p → ⊥ = λ q. true_not_taken m law gs b p (next_taken m gs p e) (rw q at d) in ⊎_elim no
      (λ (j : Among x (expanded r)). true_kept w (step_bounds m law gs b p e) x (rw (step_elsewhere m gs p x no) d) j) i

  true_stays : {n : ℕ} {gs : List Price} {r : Run} → Ran m n gs r → Bounds m gs → (x : ℕ) → TrueDistance m x (standing_at gs x) →
      TrueDistance m x (standing_at r.left x)
  true_stays spent b x d = d
  true_stays (stops s) b x d = d
  true_stays (stuck e) b x d = d
  true_stays (takes {gs = gs} p f e w) b x d =
      let no : x ≡ p → ⊥ = λ q. true_not_taken m law gs b p (next_taken m gs p e) (rw q at d) in
      true_stays w (step_bounds m law gs b p e) x (rw (step_elsewhere m gs p x no) d)

  -- a closed standing that is taken is lowered
  closed_lowered : (gs : List Price) (p : ℕ) → Taken m gs p → standing_at gs p ≡ closed → less (lookahead m gs p) (standing_at gs p) ≡ true
  closed_lowered gs p t c = ⊎_elim (λ (h : less (lookahead m gs p) (standing_at gs p) ≡ true). h)
      (λ (f : less (lookahead m gs p) (standing_at gs p) ≡ false). absurd
      (both_ways (less closed (lookahead m gs p)) refl (rw c at (else_below m gs p t.uneven f))))
      (cases_Bool (less (lookahead m gs p) (standing_at gs p)))

  -- so it is not raised again
  closed_kept : {n : ℕ} {gs : List Price} {r : Run} → Ran m n gs r → Bounds m gs → (x : ℕ) → standing_at gs x ≡ closed →
      Among (record { place = x; change = raised }) r.steps → ⊥
  closed_kept spent b x c i = i
  closed_kept (stops s) b x c i = i
  closed_kept (stuck e) b x c i = i
  closed_kept (takes {gs = gs} {r = r} p f e w) b x c i =
      let t = next_taken m gs p e in
      let here : x ≡ p → less (lookahead m gs p) (standing_at gs p) ≡ true = λ q. closed_lowered gs p t (rw q at c) in ⊎_elim
      (λ (q : record { place = x; change = raised } ≡ expansion m gs p). not_raised (less (lookahead m gs p) (standing_at gs p))
      (ap (λ (z : Expansion). z.change) q) (here (ap (λ (z : Expansion). z.place) q)))
      (λ (j : Among (record { place = x; change = raised }) r.steps). ⊎_elim
      (λ (q : x ≡ p). true_kept w (step_bounds m law gs b p e) p (taken_lowered m law gs b p t (here q))
      (subst (λ z. Among z (expanded r)) q (map_among (λ (z : Expansion). z.place) r.steps (record { place = x; change = raised }) j)))
      (λ (n : x ≡ p → ⊥). closed_kept w (step_bounds m law gs b p e) x (step_elsewhere m gs p x n ∙ c) j) (cases_eq x p)) i

  ran_distinct : {n : ℕ} {gs : List Price} {r : Run} → Ran m n gs r → Bounds m gs → Distinct r.steps
  ran_distinct spent b = tt
  ran_distinct (stops s) b = tt
  ran_distinct (stuck e) b = tt
  ran_distinct (takes {gs = gs} {r = r} p f e w) b = let t = next_taken m gs p e in let b' = step_bounds m law gs b p e in (
    (λ i. ⊎_elim
        (λ (h : less (lookahead m gs p) (standing_at gs p) ≡ true). true_kept w b' p (taken_lowered m law gs b p t h)
        (map_among (λ (z : Expansion). z.place) r.steps (expansion m gs p) i))
        (λ (g : less (lookahead m gs p) (standing_at gs p) ≡ false). closed_kept w b' p (taken_raised m law gs b p t g)
        (subst (λ c. Among (record { place = p; change = c }) r.steps) (cond-false (less (lookahead m gs p) (standing_at gs p)) lowered raised g) i))
        (cases_Bool (less (lookahead m gs p) (standing_at gs p)))),
    ran_distinct w b',
  )

  steps_inside : {n : ℕ} {gs : List Price} {r : Run} → Ran m n gs r → (x : Expansion) → Among x r.steps → x.place < places m
  steps_inside spent x i = absurd i
  steps_inside (stops s) x i = absurd i
  steps_inside (stuck e) x i = absurd i
  steps_inside (takes {gs = gs} {r = r} p f e w) x i = ⊎_elim
      (λ (q : x ≡ expansion m gs p). let z : x.place ≡ p = ap (λ (z : Expansion). z.place) q in omega (arith, (next_taken m gs p e).inside))
      (λ (j : Among x r.steps). steps_inside w x j) i

  ran_few : {n : ℕ} {gs : List Price} {r : Run} → Ran m n gs r → Bounds m gs → length r.steps ≤ 2 * places m
  ran_few {r = r} w b = pigeonhole_by code one_code (2 * places m) r.steps (ran_distinct w b)
      (λ x i. let z = steps_inside w x i in let c = change_below x.change in omega arith)

  pub stuck_settled : (gs : List Price) → next m gs ≡ None → settled m gs ≡ true
  stuck_settled gs e = is_settled m gs (record {
    even = none_even m gs e m.goal law.goal_in;
    first = λ q l u. absurd (u (none_even m gs e q l));
  })

  -- a run spends its budget or ends settled
  ran_ends : {n : ℕ} {gs : List Price} {r : Run} → Ran m n gs r → (length r.steps ≡ n) ⊎ (settled m r.left ≡ true)
  ran_ends spent = inl refl
  ran_ends (stops s) = inr s
  ran_ends (stuck {gs = gs} e) = inr (stuck_settled gs e)
  ran_ends (takes {n = n} {r = r} p f e w) = ⊎_elim (λ (z : length r.steps ≡ n). inl (ap suc z)) (λ (z : settled m r.left ≡ true). inr z) (ran_ends w)

  -- keys of later steps
  ran_key : {n : ℕ} {hs : List Price} {r : Run} → Ran m n hs r → (gs : List Price) → Bounds m gs → (p : ℕ) → next m gs ≡ Some p → hs ≡ step m gs p → (q : ℕ) →
      next m r.left ≡ Some q → key_less (key m r.left q) (key m gs p) ≡ false
  ran_key spent gs b p e s q d = rw s (next_key m law gs b p e q (rw s at d))
  ran_key (stops t) gs b p e s q d = rw s (next_key m law gs b p e q (rw s at d))
  ran_key (stuck t) gs b p e s q d = rw s (next_key m law gs b p e q (rw s at d))
  ran_key (takes {gs = hs} {r = r} x f h w) gs b p e s q d =
      let bh : Bounds m hs = rw s (step_bounds m law gs b p e) in
      let first : key_less (key m hs x) (key m gs p) ≡ false = rw s (next_key m law gs b p e x (rw s at h)) in
      key_chain (key m gs p) (key m hs x) (key m r.left q) first (ran_key w hs bh x h refl q d)

  module _ (gs : List Price) (b : Bounds m gs) where
    pub run_bounds : (n : ℕ) → Bounds m (run m n gs).left
    run_bounds n = ran_bounds (run_ran m n gs) b

    pub true_not_expanded : (n x : ℕ) → TrueDistance m x (standing_at gs x) → Among x (expanded (run m n gs)) → ⊥
    true_not_expanded n x d i = true_kept (run_ran m n gs) b x d i

    pub true_remains : (n x : ℕ) → TrueDistance m x (standing_at gs x) → TrueDistance m x (standing_at (run m n gs).left x)
    true_remains n x d = true_stays (run_ran m n gs) b x d

    pub never_twice : (n : ℕ) → Distinct (run m n gs).steps
    never_twice n = ran_distinct (run_ran m n gs) b

    pub at_most_twice : (n x : ℕ) → how_often x (expanded (run m n gs)) ≤ 2
    at_most_twice n x = distinct_twice x (run m n gs).steps (never_twice n)

    pub few_steps : (n : ℕ) → length (run m n gs).steps ≤ 2 * places m
    few_steps n = ran_few (run_ran m n gs) b

    pub later_key : (p : ℕ) → next m gs ≡ Some p → (n q : ℕ) → next m (run m n (step m gs p)).left ≡ Some q →
        key_less (key m (run m n (step m gs p)).left q) (key m gs p) ≡ false
    later_key p e n q d = ran_key (run_ran m n (step m gs p)) gs b p e refl q d

    one_more : (hs : List Price) → settled m hs ≡ false → (o : Option ℕ) → next m hs ≡ o → 1 ≤ length (run m 1 hs).steps
    one_more hs f None e = absurd (both_ways (settled m hs) f (stuck_settled hs e))
    one_more hs f (Some p) e = let z = ap (λ (r : Run). length r.steps) (run_step m hs 0 p f e) in omega arith

    -- a repair ends settled: else one step more could be taken
    pub ends_settled : settled m (repair m gs).left ≡ true
    ends_settled = ⊎_elim
        (λ (z : length (repair m gs).steps ≡ 2 * places m). ⊎_elim (λ (t : settled m (repair m gs).left ≡ true). t)
        (λ (f : settled m (repair m gs).left ≡ false).
        let o = one_more (repair m gs).left f (next m (repair m gs).left) refl in
        let j = ap (λ (r : Run). length r.steps) (runs_join m (2 * places m) 1 gs) in
        let a = length-append (repair m gs).steps (run m 1 (repair m gs).left).steps in
        let h = few_steps (2 * places m + 1) in absurd (omega arith)) (cases_Bool (settled m (repair m gs).left)))
        (λ (z : settled m (repair m gs).left ≡ true). z) (ran_ends (run_ran m (2 * places m) gs))
