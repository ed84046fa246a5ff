-- What lies past the places is never read.
use Rattle.std.proofs.Common.{◌≡◌, ℕ, zero, suc, ◌<◌, ◌≤◌, true, false, cond, eqb, List, [], ◌∷◌, length, get_or, Some, None, Option, sym, refl, ap, ◌∙◌, ⊎_elim, arith}
use Rattle.std.proofs.lemmas.Bool.{both_ways, cases_Bool, cases_eq}
use Rattle.rows.specs.Rows.{Price, is_open, smaller, sum, zero_of}
use Rattle.rows.specs.Keys.{before, key_less}
use Rattle.chart.specs.Lawful.{Lawful}
use Rattle.chart.specs.Meaning.{Link, Meaning, link_at, places}
use Rattle.chart.specs.Questions.{leads_into}
use Rattle.chart.proofs.Least.{least_same}
use Rattle.chart.proofs.Limits.{link_law}
use Rattle.lifelong.specs.Standings.{key, key_for, lookahead, through}
use Rattle.lifelong.specs.Step.{Even, Taken, change_of, changed, next, settled, step}
use Rattle.lifelong.specs.Run.{Run, run}
use Rattle.lifelong.specs.Theorems.{Agree, PastUnread}
use Rattle.lifelong.specs.Trace.{Move, best_move, move, move_over, moving, nearest, none, onto, trace, traced, walk}
use Rattle.lifelong.proofs.Agreement.{even_none, is_settled, next_taken, none_even, settled_is, step_elsewhere, step_here, step_long, taken_next}
use Rattle.lifelong.proofs.Runs.{expansion, run_none, run_settled, run_step, run_stuck}

module _ (m : Meaning) (law : Lawful m) where
  through_same : (gs hs : List Price) → Agree m gs hs → (n : ℕ) (o : Option Link) → link_at m n ≡ o → through m.kind gs o ≡ through m.kind hs o
  through_same gs hs a n None e = refl
  through_same gs hs a n (Some l) e = ap (λ p. sum m.kind p l.price) (a l.from (link_law m law n l e).from_in)

  module _ (gs hs : List Price) (a : Agree m gs hs) where
    look_same : (x : ℕ) → lookahead m gs x ≡ lookahead m hs x
    unfolding lookahead
    look_same x = ap (cond (eqb x m.start) (zero_of m.kind))
        (least_same (leads_into x) (through m.kind gs) (through m.kind hs) m.links (λ n _. through_same gs hs a n (link_at m n) refl))

    even_same : (x : ℕ) → x < places m → Even m gs x → Even m hs x
    even_same x l e = sym (a x l) ∙ e ∙ look_same x

    key_same : (x : ℕ) → x < places m → key m gs x ≡ key m hs x
    unfolding key
    key_same x l = λ i. key_for m x (smaller (a x l i) (look_same x i))

  back : (gs hs : List Price) → Agree m gs hs → Agree m hs gs
  back gs hs a p l = sym (a p l)

  module _ (gs hs : List Price) (a : Agree m gs hs) where
    taken_same : (p : ℕ) → Taken m gs p → Taken m hs p
    taken_same p t = record {
      inside = t.inside;
      uneven = λ e. t.uneven (even_same hs gs (back gs hs a) p t.inside e);
      first = λ q l u. sym (λ i. before (key_same gs hs a q l i) q (key_same gs hs a p t.inside i) p) ∙ t.first q l (λ e. u (even_same gs hs a q l e));
    }

    next_by : (o : Option ℕ) → next m gs ≡ o → next m hs ≡ o
    next_by None e = even_none m hs (λ p l. even_same gs hs a p l (none_even m gs e p l))
    next_by (Some p) e = taken_next m hs p (taken_same p (next_taken m gs p e))

    next_same : next m gs ≡ next m hs
    next_same = sym (next_by (next m gs) refl)

    settled_too : settled m gs ≡ true → settled m hs ≡ true
    settled_too t = let s = settled_is m gs t in is_settled m hs (record {
      even = even_same gs hs a m.goal law.goal_in s.even;
      first = λ q l u. sym (λ i. key_less (key_same gs hs a q l i) (key_same gs hs a m.goal law.goal_in i)) ∙ s.first q l
          (λ e. u (even_same gs hs a q l e));
    })

  settled_same : (gs hs : List Price) → Agree m gs hs → settled m gs ≡ settled m hs
  settled_same gs hs a = ⊎_elim
      (λ (t : settled m gs ≡ true). t ∙ sym (settled_too gs hs a t))
      (λ (f : settled m gs ≡ false). ⊎_elim
      (λ (t : settled m hs ≡ true). absurd (both_ways (settled m gs) f (settled_too hs gs (back gs hs a) t)))
      (λ (g : settled m hs ≡ false). f ∙ sym g) (cases_Bool (settled m hs))) (cases_Bool (settled m gs))

  module _ (gs hs : List Price) (a : Agree m gs hs) (lg : places m ≤ length gs) (lh : places m ≤ length hs) where
    step_same : (p : ℕ) → p < places m → Agree m (step m gs p) (step m hs p)
    step_same p l q k = ⊎_elim
        (λ (e : q ≡ p). rw e (step_here m gs p (omega arith) ∙ (λ i. changed (a p l i) (look_same gs hs a p i)) ∙ sym (step_here m hs p (omega arith))))
        (λ (n : q ≡ p → ⊥). step_elsewhere m gs p q n ∙ a q k ∙ sym (step_elsewhere m hs p q n)) (cases_eq q p)

    expansion_same : (p : ℕ) → p < places m → expansion m gs p ≡ expansion m hs p
    expansion_same p l = λ i. record { place = p; change = change_of (a p l i) (look_same gs hs a p i) }

  record RunsAgree (r s : Run) : Type 0 where
    steps : r.steps ≡ s.steps
    left : Agree m r.left s.left

  run_agree : (n : ℕ) (gs hs : List Price) → Agree m gs hs → places m ≤ length gs → places m ≤ length hs → RunsAgree (run m n gs) (run m n hs)
  run_agree zero gs hs a lg lh = rw (run_none m gs, run_none m hs) (record { steps = refl; left = a })
  run_agree (suc n) gs hs a lg lh = ⊎_elim
      (λ (t : settled m gs ≡ true). rw (run_settled m gs (suc n) t, run_settled m hs (suc n) (sym (settled_same gs hs a) ∙ t))
      (record { steps = refl; left = a }))
      (λ (f : settled m gs ≡ false). on f
      (λ p l. run_agree n (step m gs p) (step m hs p) (step_same gs hs a lg lh p l) (omega (arith, step_long m gs p)) (omega (arith, step_long m hs p)))
      (next m gs) refl)
      (cases_Bool (settled m gs))
    where
      on : settled m gs ≡ false → ((p : ℕ) → p < places m → RunsAgree (run m n (step m gs p)) (run m n (step m hs p))) → (o : Option ℕ) → next m gs ≡ o →
          RunsAgree (run m (suc n) gs) (run m (suc n) hs)
      on f ih None e = rw (run_stuck m gs (suc n) f e, run_stuck m hs (suc n) (sym (settled_same gs hs a) ∙ f) (next_by gs hs a None e))
          (record { steps = refl; left = a })
      on f ih (Some p) e =
          let l = (next_taken m gs p e).inside in
          let r = ih p l in
          rw (run_step m gs n p f e, run_step m hs n p (sym (settled_same gs hs a) ∙ f) (next_by gs hs a (Some p) e))
          (record { steps = λ i. expansion_same gs hs a lg lh p l i ∷ r.steps i; left = r.left })

  -- the trace
  module _ (gs hs : List Price) (a : Agree m gs hs) where
    over_same : (k n : ℕ) (o : Option Link) → link_at m n ≡ o → move_over m.kind gs k o ≡ move_over m.kind hs k o
    over_same k n None e = refl
    over_same k n (Some l) e = ap (λ p. Some (record { number = k; from = l.from; cost = p })) (through_same gs hs a n (Some l) e)

    best_same : (x k : ℕ) (ls : List (Option Link)) →
        ((j : ℕ) (i : ℕ) → move_over m.kind gs i (get_or ls j None) ≡ move_over m.kind hs i (get_or ls j None)) → best_move m.kind gs x k ls ≡ best_move
        m.kind hs x k ls
    unfolding best_move
    best_same x k [] h = refl
    best_same x k (l ∷ ls) h = let r = best_same x (suc k) ls (λ j. h (suc j)) in λ i. cond (leads_into x l) (nearest (h 0 k i) (r i)) (r i)

    move_same : (x : ℕ) → move m gs x ≡ move m hs x
    move_same x = best_same x 0 m.links (λ j i. over_same i j (link_at m j) refl)

    moving_same : (x : ℕ) (o : Option Move) (f g : ℕ → Option (List ℕ)) → ((y : ℕ) → f y ≡ g y) → moving x o f ≡ moving x o g
    moving_same x None f g h = refl
    moving_same x (Some v) f g h = ap (λ r. cond (is_open v.cost) (onto x r) None) (h v.from)

    walk_same : (n x : ℕ) → walk m gs n x ≡ walk m hs n x
    unfolding walk
    walk_same zero x = refl
    walk_same (suc n) x = ap (cond (eqb x m.start) (Some (x ∷ [])))
        (ap (λ o. moving x o (λ y. walk m gs n y)) (move_same x) ∙ moving_same x (move m hs x) (λ y. walk m gs n y) (λ y. walk m hs n y) (walk_same n))

    trace_same : trace m gs ≡ trace m hs
    trace_same = λ i. cond (is_open (a m.goal law.goal_in i)) (traced (walk_same (places m) m.goal i)) none

pub past_unread : PastUnread
past_unread m law gs hs lg lh a = record {
  next_same = next_same m law gs hs a;
  settled_same = settled_same m law gs hs a;
  run_same = λ n. (run_agree m law n gs hs a lg lh).steps;
  left_same = λ n. (run_agree m law n gs hs a lg lh).left;
  trace_same = trace_same m law gs hs a;
}
