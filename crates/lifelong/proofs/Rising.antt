-- Keys of successive steps never fall.
use Rattle.std.proofs.Common.{◌≡◌, ℕ, ◌<◌, ◌≤◌, min, true, false, ◌⊎◌, List, Some, sym, ap, ◌∙◌, subst, inl, inr, ⊎_elim, arith}
use Rattle.std.proofs.lemmas.Bool.{cases_Bool, cases_eq, cases_lt, cases_order}
use Rattle.rows.specs.Rows.{Price, less}
use Rattle.rows.specs.Keys.{key_less}
use Rattle.rows.proofs.Numbers.{less_rank, rank_closed}
use Rattle.chart.specs.Lawful.{Lawful}
use Rattle.chart.specs.Meaning.{Link, Meaning, link_at, places}
use Rattle.chart.proofs.Limits.{link_law}
use Rattle.lifelong.specs.Standings.{key, lookahead, standing_at}
use Rattle.lifelong.specs.Step.{Even, Taken, next, step}
use Rattle.lifelong.specs.Bounds.{Bounds}
use Rattle.lifelong.proofs.Lookaheads.{By, look_proper, stand_proper}
use Rattle.lifelong.proofs.Agreement.{else_below, next_taken, step_elsewhere, step_lowered}
use Rattle.lifelong.proofs.Ranks.{Before, Upto, ahead, ahead_below, ahead_by, ahead_capped, ahead_start, before_by, below_not, cost, even_rank, key_reads}
use Rattle.lifelong.proofs.Ranks.{limit, number, or_even, over_link, pair, pair_at, plus, stand, stand_capped}
use Rattle.lifelong.proofs.Reach.{link_key}
use Rattle.lifelong.proofs.Steps.{step_bounds, taken_bound, taken_raised}

-- a link from x to u, over which v comes to no more than w
record Via (m : Meaning) (x v u w : ℕ) : Type 0 where
  number : ℕ
  link : Link
  named : link_at m number ≡ Some link
  from_is : link.from ≡ x
  to_is : link.to ≡ u
  least : plus m v (cost m link) ≤ w

widened : (m : Meaning) (x v u w z : ℕ) → w ≤ z → Via m x v u w → Via m x v u z
widened m x v u w z le t = record {
  number = t.number;
  link = t.link;
  named = t.named;
  from_is = t.from_is;
  to_is = t.to_is;
  least = omega (arith, t.least);
}

-- where only the standing of x differs, a lookahead that differs came by a link from x
via : (m : Meaning) → Lawful m → (fs hs : List Price) → Bounds m fs → Bounds m hs → (x v : ℕ) → ((y : ℕ) → (y ≡ x → ⊥) → standing_at hs y ≡ standing_at fs y) →
    v ≤ stand m fs x →
    (u : ℕ) → ahead m fs u < ahead m hs u → Via m x v u (ahead m fs u)
via m law fs hs bf bh x v same le u lt = ⊎_elim at_start at_link (ahead_by m law fs bf u (omega (arith, ahead_capped m law hs bh u)))
  where
    at_start : u ≡ m.start → Via m x v u (ahead m fs u)
    at_start e = let z : ahead m hs u ≡ 0 = ap (ahead m hs) e ∙ ahead_start m law hs bh in absurd (omega arith)

    at_link : By m fs u → Via m x v u (ahead m fs u)
    at_link y =
        let l = y.link in
        let val : ahead m fs u ≡ plus m (stand m fs l.from) (cost m l) = ap (number m) y.gives ∙ over_link m law fs bf y.number l y.named in ⊎_elim
        (λ (e : l.from ≡ x). let fe : stand m fs l.from ≡ stand m fs x = ap (stand m fs) e in
        record { number = y.number; link = l; named = y.named; from_is = e; to_is = y.to_is; least = omega arith })
        (λ (n : l.from ≡ x → ⊥).
        let fe : stand m hs l.from ≡ stand m fs l.from = ap (number m) (same l.from n) in
        let below : ahead m hs l.to ≤ plus m (stand m hs l.from) (cost m l) = ahead_below m law hs bh y.number l y.named in
        let to : ahead m hs l.to ≡ ahead m hs u = ap (ahead m hs) y.to_is in absurd (omega arith)) (cases_eq l.from x)

module _ (m : Meaning) (law : Lawful m) (gs : List Price) (b : Bounds m gs) (x : ℕ) (e : next m gs ≡ Some x) where
  abbrev hs : List Price
  hs = step m gs x

  abbrev v : ℕ
  v = min (stand m gs x) (ahead m gs x)

  t : Taken m gs x
  t = next_taken m gs x e

  bh : Bounds m hs
  bh = step_bounds m law gs b x e

  elsewhere : (y : ℕ) → (y ≡ x → ⊥) → standing_at hs y ≡ standing_at gs y
  elsewhere y n = step_elsewhere m gs x y n

  new : ((ahead m gs x < stand m gs x) × (stand m hs x ≡ ahead m gs x)) ⊎ ((stand m gs x < ahead m gs x) × (stand m hs x ≡ limit m))
  new = ⊎_elim
      (λ (h : less (lookahead m gs x) (standing_at gs x) ≡ true).
      inl (
        less_rank m.kind (lookahead m gs x) (standing_at gs x) (look_proper m law gs b x) (stand_proper m law gs b x t.inside) h,
        ap (number m) (step_lowered m gs x (omega (arith, t.inside, b.long)) h),
      ))
      (λ (f : less (lookahead m gs x) (standing_at gs x) ≡ false).
      inr (
        less_rank m.kind (standing_at gs x) (lookahead m gs x) (stand_proper m law gs b x t.inside) (look_proper m law gs b x)
            (else_below m gs x t.uneven f),
        ap (number m) (taken_raised m law gs b x t f) ∙ rank_closed m.kind,
      ))
      (cases_Bool (less (lookahead m gs x) (standing_at gs x)))

  v_below : v < limit m
  v_below = omega (arith, new, ahead_capped m law gs b x, stand_capped m law gs b x t.inside)

  v_new : v ≤ stand m hs x
  v_new = omega (arith, new, ahead_capped m law gs b x)

  -- the lookahead of u is as it was, or both are at least v + price over a link from x to u
  change : (u : ℕ) → (ahead m hs u ≡ ahead m gs u) ⊎ Via m x v u (min (ahead m gs u) (ahead m hs u))
  change u = ⊎_elim (λ (q : ahead m gs u ≡ ahead m hs u). inl (sym q)) (⊎_elim up down) (cases_order (ahead m gs u) (ahead m hs u))
    where
      up : ahead m gs u < ahead m hs u → (ahead m hs u ≡ ahead m gs u) ⊎ Via m x v u (min (ahead m gs u) (ahead m hs u))
      up h = inr (widened m x v u (ahead m gs u) (min (ahead m gs u) (ahead m hs u)) (omega arith) (via m law gs hs b bh x v elsewhere (omega arith) u h))

      down : ahead m hs u < ahead m gs u → (ahead m hs u ≡ ahead m gs u) ⊎ Via m x v u (min (ahead m gs u) (ahead m hs u))
      down h = inr (widened m x v u (ahead m hs u) (min (ahead m gs u) (ahead m hs u)) (omega arith)
          (via m law hs gs bh b x v (λ y n. sym (elsewhere y n)) v_new u h))

  rises_self : (Even m hs x → ⊥) → Before (pair m gs x) (pair m hs x)
  rises_self u = ⊎_elim
      (λ (q : ahead m hs x ≡ ahead m gs x). ⊎_elim
      (λ (w : (ahead m gs x < stand m gs x) × (stand m hs x ≡ ahead m gs x)). absurd (u (even_rank m law hs bh x t.inside (omega arith))))
      (λ (w : (stand m gs x < ahead m gs x) × (stand m hs x ≡ limit m)).
      let c = ahead_capped m law gs b x in before_by (pair m gs x) (pair m hs x) (λ z. omega arith)) new)
      (λ (c : Via m x v x (min (ahead m gs x) (ahead m hs x))). absurd ((link_law m law c.number c.link c.named).apart (c.from_is ∙ sym c.to_is)))
      (change x)

  -- an uneven place keeps the key it had, or has one above that of the place taken
  rises_other : (y : ℕ) → (y ≡ x → ⊥) → y < places m → (Even m hs y → ⊥) →
      ((Even m gs y → ⊥) × (min (stand m hs y) (ahead m hs y) ≡ min (stand m gs y) (ahead m gs y))) ⊎ Before (pair m gs x) (pair m hs y)
  rises_other y n l u = let o : stand m hs y ≡ stand m gs y = ap (number m) (elsewhere y n) in ⊎_elim
      (λ (q : ahead m hs y ≡ ahead m gs y). inl
      ((λ ev. let z : stand m gs y ≡ ahead m gs y = ap (number m) ev in u (even_rank m law hs bh y l (omega arith))), omega arith))
      (λ (c : Via m x v y (min (ahead m gs y) (ahead m hs y))).
      let least : plus m v (cost m c.link) ≤ min (ahead m gs y) (ahead m hs y) = c.least in ⊎_elim
      (λ (h : stand m gs y < plus m v (cost m c.link)). inl ((λ ev. let z : stand m gs y ≡ ahead m gs y = ap (number m) ev in omega arith), omega arith))
      (λ (h : plus m v (cost m c.link) ≤ stand m gs y).
      let k : Before (pair_at m c.link.from v) (pair_at m c.link.to (min (stand m hs y) (ahead m hs y))) =
      link_key m law c.number c.link c.named v (min (stand m hs y) (ahead m hs y)) v_below (omega arith) in
      inr (subst (λ (z : ℕ). Before (pair_at m x v) (pair_at m z (min (stand m hs y) (ahead m hs y)))) c.to_is
      (subst (λ (z : ℕ). Before (pair_at m z v) (pair_at m c.link.to (min (stand m hs y) (ahead m hs y)))) c.from_is k)))
      (cases_lt (stand m gs y) (plus m v (cost m c.link))))
      (change y)

  -- so no uneven place has a key below that of the place taken
  pub keys_rise : (y : ℕ) → y < places m → (Even m hs y → ⊥) → Upto (pair m gs x) (pair m hs y)
  keys_rise y l u = ⊎_elim
      (λ (q : y ≡ x). or_even (rw q (rises_self (rw q at u))))
      (λ (n : y ≡ x → ⊥). ⊎_elim
      (λ (w : (Even m gs y → ⊥) × (min (stand m hs y) (ahead m hs y) ≡ min (stand m gs y) (ahead m gs y))).
      subst (λ (z : ℕ). Upto (pair m gs x) (pair_at m y z)) (sym w.1) (taken_bound m law gs b x t y l w.0))
      (λ (w : Before (pair m gs x) (pair m hs y)). or_even w) (rises_other y n l u)) (cases_eq y x)

  pub next_key : (q : ℕ) → next m hs ≡ Some q → key_less (key m hs q) (key m gs x) ≡ false
  next_key q d = let w = next_taken m hs q d in
      below_not m (key m hs q) (key m gs x) (pair m hs q) (pair m gs x) (key_reads m law hs bh q w.inside) (key_reads m law gs b x t.inside)
      (keys_rise q w.inside w.uneven)
