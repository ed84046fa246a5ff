-- The top of the queue of a bench that is up to date is the place that a step takes.
use Rattle.std.proofs.Common.{◌≡◌, ℕ, ◌<◌, true, false, not, ◌&&◌, List, get_or, set, Some, None, sym, ap, ◌∙◌, ⊎_elim}
use Rattle.std.proofs.lemmas.Bool.{cases_Bool}
use Rattle.rows.specs.Rows.{Price, closed, smaller}
use Rattle.rows.specs.Keys.{Key, before, key_less}
use Rattle.chart.specs.Meaning.{Meaning, places}
use Rattle.lifelong.specs.Standings.{differ, key, key_for, lookahead, standing_at, uneven}
use Rattle.lifelong.specs.Step.{below_goal, changed, next, settled, step}
use Rattle.lifelong.proofs.Agreement.{even_is, even_none, is_uneven, taken_next, uneven_is}
use Rattle.lpa_star.specs.Memory.{Memory, Waiting, key_kept}
use Rattle.lpa_star.specs.UpToDate.{UpToDate}
use Rattle.lpa_star.proofs.Keys.{key_by, uneven_by}

module _ (m : Meaning) (gs : List Price) where
  settled_uneven : uneven m gs m.goal ≡ true → settled m gs ≡ false
  unfolding settled
  settled_uneven e = ap (λ b. not b && not (below_goal m gs (next m gs))) e

  settled_even : uneven m gs m.goal ≡ false → settled m gs ≡ not (below_goal m gs (next m gs))
  unfolding settled
  settled_even e = ap (λ b. not b && not (below_goal m gs (next m gs))) e

  -- the standings after a step, by the lookahead that is kept
  pub step_by : (p : ℕ) (a : Price) → a ≡ lookahead m gs p → set gs p (changed (standing_at gs p) a) ≡ step m gs p
  unfolding step
  step_by p a e = ap (λ x. set gs p (changed (standing_at gs p) x)) e

module _ (m : Meaning) (d : Memory) (h : UpToDate m d) where
  -- what waits is uneven, and under its key
  waiting_uneven : (p : ℕ) → Waiting d p → uneven m d.standings p ≡ true
  waiting_uneven p w = ⊎_elim (λ t. t) (λ f. absurd ((h.right p (h.inside p w)).even f w)) (cases_Bool (uneven m d.standings p))

  waiting_key : (p : ℕ) → Waiting d p → key_kept d.keys p ≡ key m d.standings p
  waiting_key p w = (h.right p (h.inside p w)).keyed w

  pub top_next : (p : ℕ) → Waiting d p → ((q : ℕ) → Waiting d q → before (key_kept d.keys q) q (key_kept d.keys p) p ≡ false) →
      next m d.standings ≡ Some p
  top_next p w least = taken_next m d.standings p (record {
    inside = h.inside p w;
    uneven = uneven_is m d.standings p (waiting_uneven p w);
    first = λ q l u.
        let x = (h.right q l).queued (is_uneven m d.standings q u) in
        sym (λ i. before (waiting_key q x i) q (waiting_key p w i) p) ∙ least q x;
  })

  pub empty_none : ((q : ℕ) → Waiting d q → ⊥) → next m d.standings ≡ None
  empty_none e = even_none m d.standings
      (λ q l. even_is m d.standings q (⊎_elim (λ t. absurd (e q ((h.right q l).queued t))) (λ f. f) (cases_Bool (uneven m d.standings q))))

  -- the goal as it is kept
  module _ (p : ℕ) (s a : Price) (ep : p ≡ m.goal) (l : m.goal < places m) (es : s ≡ standing_at d.standings p) (ea : a ≡ get_or d.lookaheads p closed) where
    stands : s ≡ standing_at d.standings m.goal
    stands = es ∙ ap (standing_at d.standings) ep

    looks : a ≡ lookahead m d.standings m.goal
    looks = ea ∙ ap (λ q. get_or d.lookaheads q closed) ep ∙ (h.right m.goal l).look

    goal_uneven : differ s a ≡ uneven m d.standings m.goal
    goal_uneven = uneven_by m d.standings m.goal s a stands looks

    goal_key : (x : Price) (k : Key) → x ≡ smaller s a → k ≡ key_for m p x → k ≡ key m d.standings m.goal
    goal_key x k ex ek = key_by m d.standings m.goal s a stands looks x k ex (ek ∙ ap (λ q. key_for m q x) ep)

    pub unsettled : true ≡ differ s a → false ≡ settled m d.standings
    unsettled t = sym (settled_uneven m d.standings (sym goal_uneven ∙ sym t))

    pub settled_empty : false ≡ differ s a → ((q : ℕ) → Waiting d q → ⊥) → true ≡ settled m d.standings
    settled_empty f e = sym (settled_even m d.standings (sym goal_uneven ∙ sym f) ∙ ap (λ o. not (below_goal m d.standings o)) (empty_none e))

    pub settled_top : false ≡ differ s a → (q : ℕ) → Waiting d q → ((r : ℕ) → Waiting d r → before (key_kept d.keys r) r (key_kept d.keys q) q ≡ false) →
        (x : Price) (k j : Key) → x ≡ smaller s a → k ≡ key_for m p x → j ≡ key_kept d.keys q → not (key_less j k) ≡ settled m d.standings
    settled_top f q w least x k j ex ek ej =
        (λ i. not (key_less ((ej ∙ waiting_key q w) i) (goal_key x k ex ek i)))
        ∙ sym (settled_even m d.standings (sym goal_uneven ∙ sym f) ∙ ap (λ o. not (below_goal m d.standings o)) (top_next q w least))
