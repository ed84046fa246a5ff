-- What one step does: a lowered place gets its true distance, a true standing is never taken, and bounds stay.
use Rattle.std.proofs.Common.{◌≡◌, ℕ, ◌<◌, ◌≤◌, true, false, List, length, Some, ap, ⊎_elim, arith}
use Rattle.std.proofs.lemmas.Bool.{cases_Bool, cases_eq}
use Rattle.rows.specs.Rows.{Price, closed, less}
use Rattle.rows.specs.Keys.{key_less}
use Rattle.rows.proofs.Keys.{before_key}
use Rattle.rows.proofs.Numbers.{less_rank, rank_closed}
use Rattle.chart.specs.Lawful.{Lawful}
use Rattle.chart.specs.Meaning.{Meaning, places}
use Rattle.chart.specs.Routes.{Chain, TrueDistance}
use Rattle.chart.proofs.Chains.{distance_within, one_distance}
use Rattle.lifelong.specs.Standings.{key, lookahead, standing_at}
use Rattle.lifelong.specs.Step.{Settled, Taken, next, step}
use Rattle.lifelong.specs.Bounds.{Bounds}
use Rattle.lifelong.proofs.Lookaheads.{look_proper, stand_proper}
use Rattle.lifelong.proofs.Agreement.{else_below, next_taken, step_elsewhere, step_long, step_lowered, step_raised}
use Rattle.lifelong.proofs.Ranks.{Upto, ahead, ahead_capped, key_reads, limit, not_below, number, pair, pair_at, stand, upto_by}
use Rattle.lifelong.proofs.Reach.{LowerBound, look_true, reach_ahead}

module _ (m : Meaning) (law : Lawful m) (gs : List Price) (b : Bounds m gs) where
  upto_keys : (x y : ℕ) → x < places m → y < places m → key_less (key m gs y) (key m gs x) ≡ false → Upto (pair m gs x) (pair m gs y)
  upto_keys x y lx ly h = not_below m (key m gs y) (key m gs x) (pair m gs y) (pair m gs x) (key_reads m law gs b y ly) (key_reads m law gs b x lx) h

  pub taken_bound : (p : ℕ) → Taken m gs p → LowerBound m gs (pair m gs p)
  taken_bound p t y l u = upto_keys p y t.inside l (before_key (key m gs y) (key m gs p) y p (t.first y l u))

  pub settled_bound : Settled m gs → LowerBound m gs (pair m gs m.goal)
  settled_bound s y l u = upto_keys m.goal y law.goal_in l (s.first y l u)

  pub lowered_true : (p : ℕ) → Taken m gs p → less (lookahead m gs p) (standing_at gs p) ≡ true → TrueDistance m p (lookahead m gs p)
  lowered_true p t h =
      let r : ahead m gs p < stand m gs p =
      less_rank m.kind (lookahead m gs p) (standing_at gs p) (look_proper m law gs b p) (stand_proper m law gs b p t.inside) h in
      look_true m law gs b (pair m gs p) (taken_bound p t) p (upto_by (pair_at m p (ahead m gs p)) (pair m gs p) (λ w. omega arith))

  pub settled_true : Settled m gs → TrueDistance m m.goal (standing_at gs m.goal)
  settled_true s =
      let e : stand m gs m.goal ≡ ahead m gs m.goal = ap (number m) s.even in
      rw s.even (look_true m law gs b (pair m gs m.goal) (settled_bound s) m.goal
      (upto_by (pair_at m m.goal (ahead m gs m.goal)) (pair m gs m.goal) (λ w. omega arith)))

  pub true_not_taken : (p : ℕ) → Taken m gs p → TrueDistance m p (standing_at gs p) → ⊥
  true_not_taken p t d = ⊎_elim
      (λ (h : less (lookahead m gs p) (standing_at gs p) ≡ true). t.uneven (one_distance m law p (standing_at gs p) (lookahead m gs p) d (lowered_true p t h)))
      (λ (f : less (lookahead m gs p) (standing_at gs p) ≡ false).
      let r : stand m gs p < ahead m gs p =
      less_rank m.kind (standing_at gs p) (lookahead m gs p) (stand_proper m law gs b p t.inside) (look_proper m law gs b p)
      (else_below m gs p t.uneven f) in
      let c : ahead m gs p ≤ limit m = ahead_capped m law gs b p in ⊎_elim
      (λ (w : (ps : List ℕ) × Chain m p ps (standing_at gs p)).
      let q : ahead m gs p ≤ stand m gs p =
      reach_ahead m law gs b (pair m gs p) (taken_bound p t) w.1 (upto_by (pair_at m p (stand m gs p)) (pair m gs p) (λ v. omega arith)) in
      omega arith)
      (λ (w : (standing_at gs p ≡ closed) × ((ps : List ℕ) (q : Price) → Chain m p ps q → ⊥)). omega (arith, ap (number m) w.0, rank_closed m.kind))
      d.met)
      (cases_Bool (less (lookahead m gs p) (standing_at gs p)))

  long_enough : (p : ℕ) → Taken m gs p → p < length gs
  long_enough p t = omega (arith, t.inside, b.long)

  -- the standing of a place that is taken, after the step
  pub taken_lowered : (p : ℕ) → Taken m gs p → less (lookahead m gs p) (standing_at gs p) ≡ true → TrueDistance m p (standing_at (step m gs p) p)
  taken_lowered p t h = rw (step_lowered m gs p (long_enough p t) h) (lowered_true p t h)

  pub taken_raised : (p : ℕ) → Taken m gs p → less (lookahead m gs p) (standing_at gs p) ≡ false → standing_at (step m gs p) p ≡ closed
  taken_raised p t f = step_raised m gs p (long_enough p t) f

  pub step_bounds : (p : ℕ) → next m gs ≡ Some p → Bounds m (step m gs p)
  step_bounds p e =
      let t = next_taken m gs p e in
      record {
        long = omega (arith, b.long, step_long m gs p);
        low = λ q l. ⊎_elim
            (λ (s : q ≡ p). rw s (⊎_elim
            (λ (h : less (lookahead m gs p) (standing_at gs p) ≡ true). distance_within m law p (standing_at (step m gs p) p) (taken_lowered p t h))
            (λ (f : less (lookahead m gs p) (standing_at gs p) ≡ false). rw (taken_raised p t f) tt) (cases_Bool (less (lookahead m gs p) (standing_at gs p)))))
            (λ (n : q ≡ p → ⊥). rw (step_elsewhere m gs p q n) (b.low q l)) (cases_eq q p);
      }
