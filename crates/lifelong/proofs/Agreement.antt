-- The place that a step takes, and when to stop: what is computed is what the relations say.
use Rattle.std.proofs.Common.{◌≡◌, ℕ, zero, suc, ◌<◌, ◌≤◌, Bool, true, false, cond, not, ◌&&◌, ◌||◌, ltb, List, length, Some, None, Option, sym, refl, ap, ◌∙◌, subst, ⊎_elim, arith}
use Rattle.std.proofs.lemmas.List.{ext_get_or, get_or-set_other, get_or-set_same, length-set}
use Rattle.std.proofs.lemmas.Bool.{and_parts, both_ways, cases_Bool, cases_eq, cond-false, cond-true, le-ltb, not-true, or_parts}
use Rattle.rows.specs.Rows.{Price, closed, less}
use Rattle.rows.specs.Keys.{before, key_less}
use Rattle.rows.proofs.Order.{less_one_way, less_self, less_total}
use Rattle.rows.proofs.Keys.{before_chain, before_key, before_one_way, before_total, key_chain}
use Rattle.rows.proofs.Lexicographic.{in_turn_no, in_turn_tie, in_turn_yes}
use Rattle.chart.specs.Meaning.{Meaning, places}
use Rattle.lifelong.specs.Standings.{differ, key, lookahead, standing_at, uneven}
use Rattle.lifelong.specs.Step.{Change, Changed, Even, Settled, Stepped, StepsAgree, Taken, below_goal, better, change_at, changed, lowered, next, next_below}
use Rattle.lifelong.specs.Step.{raised, settled, step}

before_self : (a : _) (p : ℕ) → before a p a p ≡ false
before_self a p = ⊎_elim (λ t. before_one_way a a p p t) (λ f. f) (cases_Bool (before a p a p))

same_even : (a b : Price) → a ≡ b → differ a b ≡ false
same_even a b e = ap (λ x. differ x b) e ∙ (λ i. less_self b i || less_self b i)

even_same : (a b : Price) → differ a b ≡ false → a ≡ b
even_same a b e = let t = or_parts (less a b) (less b a) e in less_total a b t.0 t.1

module _ (m : Meaning) (gs : List Price) where
  pub even_is : (p : ℕ) → uneven m gs p ≡ false → Even m gs p
  unfolding uneven
  even_is p e = even_same (standing_at gs p) (lookahead m gs p) e

  pub is_even : (p : ℕ) → Even m gs p → uneven m gs p ≡ false
  unfolding uneven
  is_even p e = same_even (standing_at gs p) (lookahead m gs p) e

  pub uneven_is : (p : ℕ) → uneven m gs p ≡ true → Even m gs p → ⊥
  uneven_is p u e = both_ways (uneven m gs p) (is_even p e) u

  pub is_uneven : (p : ℕ) → (Even m gs p → ⊥) → uneven m gs p ≡ true
  is_uneven p u = ⊎_elim (λ t. t) (λ f. absurd (u (even_is p f))) (cases_Bool (uneven m gs p))

  -- no uneven place below n comes before p
  abbrev First : ℕ → ℕ → Type 0
  First n p = (q : ℕ) → q < n → uneven m gs q ≡ true → before (key m gs q) q (key m gs p) p ≡ false

  abbrev Best : ℕ → Option ℕ → Type 0
  Best n None = (q : ℕ) → q < n → uneven m gs q ≡ false
  Best n (Some p) = (p < n) × (uneven m gs p ≡ true) × First n p

  at_last : (n p q : ℕ) → q ≡ n → p ≡ n → before (key m gs q) q (key m gs p) p ≡ false
  at_last n p q e d = (λ i. before (key m gs ((e ∙ sym d) i)) ((e ∙ sym d) i) (key m gs p) p) ∙ before_self (key m gs p) p

  widen : (n : ℕ) (o : Option ℕ) → uneven m gs n ≡ false → Best n o → Best (suc n) o
  widen n None f h = λ q l. ⊎_elim (λ e. ap (uneven m gs) e ∙ f) (λ ne. h q (omega arith)) (cases_eq q n)
  widen n (Some p) f h = let l = h.0 in (
    omega arith,
    h.1,
    λ q l u. ⊎_elim
        (λ e. absurd (both_ways (uneven m gs q) (ap (uneven m gs) e ∙ f) u)) (λ ne. h.2 q (omega arith) u) (cases_eq q n),
  )

  chosen : (n b : ℕ) (t : Bool) → key_less (key m gs n) (key m gs b) ≡ t → uneven m gs n ≡ true → Best n (Some b) → Best (suc n) (cond t (Some n) (Some b))
  chosen n b true e u h = (
    omega arith,
    u,
    λ q l w. ⊎_elim
        (λ d. at_last n n q d refl)
        (λ ne. before_chain (key m gs n) (key m gs b) (key m gs q) n b q
        (before_one_way (key m gs n) (key m gs b) n b (in_turn_yes (key_less (key m gs n) (key m gs b)) (key_less (key m gs b) (key m gs n)) (ltb n b) e))
        (h.2 q (omega arith) w)) (cases_eq q n),
  )
  chosen n b false e u h = let lb = h.0 in (
    omega arith,
    h.1,
    λ q l w. ⊎_elim
        (λ (d : q ≡ n). (λ i. before (key m gs (d i)) (d i) (key m gs b) b) ∙ ⊎_elim
        (λ t. in_turn_no (key_less (key m gs n) (key m gs b)) (key_less (key m gs b) (key m gs n)) (ltb n b) e t)
        (λ f. in_turn_tie (key_less (key m gs n) (key m gs b)) (key_less (key m gs b) (key m gs n)) (ltb n b) e f ∙ le-ltb n b (omega arith))
        (cases_Bool (key_less (key m gs b) (key m gs n))))
        (λ ne. h.2 q (omega arith) w) (cases_eq q n),
  )

  joined : (n : ℕ) (o : Option ℕ) → uneven m gs n ≡ true → Best n o → Best (suc n) (better m gs o n)
  joined n None u h = (
    omega arith,
    u,
    λ q l w. ⊎_elim
        (λ d. at_last n n q d refl) (λ ne. absurd (both_ways (uneven m gs q) (h q (omega arith)) w)) (cases_eq q n),
  )
  joined n (Some b) u h = chosen n b (key_less (key m gs n) (key m gs b)) refl u h

  best : (n : ℕ) → Best n (next_below m gs n)
  unfolding next_below
  best zero = λ q l. absurd (omega arith)
  best (suc n) = ⊎_elim
      (λ u. subst (Best (suc n)) (sym (cond-true (uneven m gs n) (better m gs (next_below m gs n) n) (next_below m gs n) u))
      (joined n (next_below m gs n) u (best n)))
      (λ f. subst (Best (suc n)) (sym (cond-false (uneven m gs n) (better m gs (next_below m gs n) n) (next_below m gs n) f))
      (widen n (next_below m gs n) f (best n)))
      (cases_Bool (uneven m gs n))

  only : (p : ℕ) (o : Option ℕ) → Best (places m) o → Taken m gs p → o ≡ Some p
  only p None h t = absurd (t.uneven (even_is p (h p t.inside)))
  only p (Some q) h t = ap Some
      (before_total (key m gs q) (key m gs p) q p (t.first q h.0 (uneven_is q h.1)) (h.2 p t.inside (is_uneven p t.uneven)))

  pub taken_next : (p : ℕ) → Taken m gs p → next m gs ≡ Some p
  taken_next p t = only p (next m gs) (best (places m)) t

  pub next_taken : (p : ℕ) → next m gs ≡ Some p → Taken m gs p
  next_taken p e = let h : Best (places m) (Some p) = subst (Best (places m)) e (best (places m)) in
      record { inside = h.0; uneven = uneven_is p h.1; first = λ q l u. h.2 q l (is_uneven q u) }

  pub none_even : next m gs ≡ None → (p : ℕ) → p < places m → Even m gs p
  none_even e p l = even_is p (subst (Best (places m)) e (best (places m)) p l)

  none_next : (o : Option ℕ) → Best (places m) o → ((p : ℕ) → p < places m → Even m gs p) → o ≡ None
  none_next None h e = refl
  none_next (Some p) h e = absurd (uneven_is p h.1 (e p h.0))

  pub even_none : ((p : ℕ) → p < places m → Even m gs p) → next m gs ≡ None
  even_none e = none_next (next m gs) (best (places m)) e

  -- the test of the place that would be taken says it of all
  front : (o : Option ℕ) → Best (places m) o → below_goal m gs o ≡ false → (q : ℕ) → q < places m → uneven m gs q ≡ true →
      key_less (key m gs q) (key m gs m.goal) ≡ false
  front None h f q l u = absurd (both_ways (uneven m gs q) (h q l) u)
  front (Some p) h f q l u = key_chain (key m gs m.goal) (key m gs p) (key m gs q) f (before_key (key m gs q) (key m gs p) q p (h.2 q l u))

  no_front : (o : Option ℕ) → Best (places m) o → ((q : ℕ) → q < places m → uneven m gs q ≡ true → key_less (key m gs q) (key m gs m.goal) ≡ false) →
      below_goal m gs o ≡ false
  no_front None h f = refl
  no_front (Some p) h f = f p h.0 h.1

  pub settled_is : settled m gs ≡ true → Settled m gs
  unfolding settled
  settled_is s =
      let t = and_parts (not (uneven m gs m.goal)) (not (below_goal m gs (next m gs))) s in
      record {
        even = even_is m.goal (not-true (uneven m gs m.goal) t.0);
        first = λ q l u. front (next m gs) (best (places m)) (not-true (below_goal m gs (next m gs)) t.1) q l (is_uneven q u);
      }

  pub is_settled : Settled m gs → settled m gs ≡ true
  unfolding settled
  is_settled s =
      let e = is_even m.goal s.even in
      let f = no_front (next m gs) (best (places m)) (λ q l u. s.first q l (uneven_is q u)) in
      λ i. not (e i) && not (f i)

  -- the step
  pub step_here : (p : ℕ) → p < length gs → standing_at (step m gs p) p ≡ changed (standing_at gs p) (lookahead m gs p)
  unfolding step
  step_here p l = get_or-set_same gs p (changed (standing_at gs p) (lookahead m gs p)) closed l

  pub step_elsewhere : (p q : ℕ) → (q ≡ p → ⊥) → standing_at (step m gs p) q ≡ standing_at gs q
  unfolding step
  step_elsewhere p q n = get_or-set_other gs p q (changed (standing_at gs p) (lookahead m gs p)) closed n

  pub step_long : (p : ℕ) → length (step m gs p) ≡ length gs
  unfolding step
  step_long p = length-set gs p (changed (standing_at gs p) (lookahead m gs p))

  pub step_lowered : (p : ℕ) → p < length gs → less (lookahead m gs p) (standing_at gs p) ≡ true → standing_at (step m gs p) p ≡ lookahead m gs p
  step_lowered p l h = step_here p l ∙ cond-true (less (lookahead m gs p) (standing_at gs p)) (lookahead m gs p) closed h

  pub step_raised : (p : ℕ) → p < length gs → less (lookahead m gs p) (standing_at gs p) ≡ false → standing_at (step m gs p) p ≡ closed
  step_raised p l h = step_here p l ∙ cond-false (less (lookahead m gs p) (standing_at gs p)) (lookahead m gs p) closed h

  -- an uneven standing that is not above its lookahead is below it
  pub else_below : (p : ℕ) → (Even m gs p → ⊥) → less (lookahead m gs p) (standing_at gs p) ≡ false → less (standing_at gs p) (lookahead m gs p) ≡ true
  else_below p u f = ⊎_elim (λ t. t) (λ g. absurd (u (less_total (standing_at gs p) (lookahead m gs p) g f)))
      (cases_Bool (less (standing_at gs p) (lookahead m gs p)))

  changes : (p : ℕ) (b : Bool) → less (lookahead m gs p) (standing_at gs p) ≡ b → (Even m gs p → ⊥) →
      Changed (cond b lowered raised) (standing_at gs p) (lookahead m gs p) (cond b (lookahead m gs p) closed)
  changes p true e u = (e, refl)
  changes p false e u = (else_below p u e, refl)

  pub step_stepped : (p : ℕ) → places m ≤ length gs → next m gs ≡ Some p → Stepped m gs p (change_at m gs p) (step m gs p)
  step_stepped p long e = let t = next_taken p e in let l = t.inside in record {
    taken = t;
    here = subst (Changed (change_at m gs p) (standing_at gs p) (lookahead m gs p)) (sym (step_here p (omega arith)))
        (changes p (less (lookahead m gs p) (standing_at gs p)) refl t.uneven);
    elsewhere = λ q n. step_elsewhere p q n;
    long = step_long p;
  }

  one_change : (p : ℕ) (c : Change) (v : Price) → Changed c (standing_at gs p) (lookahead m gs p) v →
      (c ≡ change_at m gs p) × (v ≡ changed (standing_at gs p) (lookahead m gs p))
  one_change p lowered v h = (
    sym (cond-true (less (lookahead m gs p) (standing_at gs p)) lowered raised h.0),
    h.1 ∙ sym
        (cond-true (less (lookahead m gs p) (standing_at gs p)) (lookahead m gs p) closed h.0),
  )
  one_change p raised v h =
      let f = less_one_way (standing_at gs p) (lookahead m gs p) h.0 in (
        sym (cond-false (less (lookahead m gs p) (standing_at gs p)) lowered raised f),
        h.1 ∙ sym
            (cond-false (less (lookahead m gs p) (standing_at gs p)) (lookahead m gs p) closed f),
      )

  pub stepped_step : (p : ℕ) (c : Change) (hs : List Price) → places m ≤ length gs → Stepped m gs p c hs →
      (next m gs ≡ Some p) × (c ≡ change_at m gs p) × (hs ≡ step m gs p)
  stepped_step p c hs long s =
      let l = s.taken.inside in
      let t = one_change p c (standing_at hs p) s.here in (
        taken_next p s.taken,
        t.0,
        ext_get_or closed hs (step m gs p) (s.long ∙ sym (step_long p)) (λ q _. ⊎_elim
            (λ (e : q ≡ p). rw e (t.1 ∙ sym (step_here p (omega arith))))
            (λ (n : q ≡ p → ⊥). s.elsewhere q n ∙ sym (step_elsewhere p q n)) (cases_eq q p)),
      )

  pub steps_agree : StepsAgree m gs
  steps_agree = record {
    uneven_computed = uneven_is;
    even_computed = even_is;
    next_is_taken = next_taken;
    taken_is_next = taken_next;
    none_is_even = none_even;
    step_computed = step_stepped;
    step_unique = stepped_step;
    settled_computed = settled_is;
    computed_settled = is_settled;
  }
