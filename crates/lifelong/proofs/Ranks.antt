-- Standings, lookaheads and keys read as numbers. Under the bounds no sum reaches the ceiling, so that all that
-- concerns order is arithmetic.
use Rattle.std.proofs.Common.{◌≡◌, ℕ, ◌+◌, ◌<◌, ◌≤◌, min, true, false, ◌⊎◌, List, Some, ap, ◌∙◌, inl, inr, ⊎_elim, arith}
use Rattle.std.proofs.lemmas.Bool.{cases_eq, cases_lt}
use Rattle.rows.specs.Rows.{Price, Proper, less, smaller, sum}
use Rattle.rows.specs.Keys.{Key, key_less}
use Rattle.rows.proofs.Lexicographic.{in_turn_failed, in_turn_fails}
use Rattle.rows.proofs.Sums.{sum_proper}
use Rattle.rows.proofs.Numbers.{below_top_is_open, less_rank, not_less_rank, rank, rank_capped, rank_less, rank_not_less, rank_same, rank_smaller, rank_sum}
use Rattle.rows.proofs.Numbers.{rank_zero, smaller_proper, top}
use Rattle.chart.specs.Lawful.{Lawful}
use Rattle.chart.specs.Meaning.{Link, Meaning, estimate_at, link_at, places}
use Rattle.chart.proofs.Limits.{uncapped_estimate, estimate_proper, link_law, link_sum, price_proper}
use Rattle.lifelong.specs.Standings.{key, lookahead, standing_at}
use Rattle.lifelong.specs.Step.{Even}
use Rattle.lifelong.specs.Bounds.{Bounds}
use Rattle.lifelong.proofs.Lookaheads.{By, look_below, look_by, look_proper, look_start, own_within, stand_proper}

-- the number of a price of the chart's kind
abbrev pub number : Meaning → Price → ℕ
number m p = rank m.kind p

abbrev pub stand : Meaning → List Price → ℕ → ℕ
stand m gs x = number m (standing_at gs x)

abbrev pub ahead : Meaning → List Price → ℕ → ℕ
ahead m gs x = number m (lookahead m gs x)

abbrev pub heuristic : Meaning → ℕ → ℕ
heuristic m x = number m (estimate_at m x)

abbrev pub cost : Meaning → Link → ℕ
cost m l = number m l.price

abbrev pub limit : Meaning → ℕ
limit m = top m.kind

abbrev pub plus : Meaning → ℕ → ℕ → ℕ
plus m a b = min (a + b) (limit m)

-- keys

pub record Pair : Type 0 where
  pub whole : ℕ
  pub own : ℕ

-- the key that place x has where the smaller of its two prices is v
abbrev pub pair_at : Meaning → ℕ → ℕ → Pair
pair_at m x v = record { whole = plus m v (heuristic m x); own = v }

abbrev pub pair : Meaning → List Price → ℕ → Pair
pair m gs x = pair_at m x (min (stand m gs x) (ahead m gs x))

abbrev pub Before : Pair → Pair → Type 0
Before a b = (a.whole < b.whole) ⊎ ((a.whole ≡ b.whole) × (a.own < b.own))

abbrev pub Upto : Pair → Pair → Type 0
Upto a b = (a.whole < b.whole) ⊎ ((a.whole ≡ b.whole) × (a.own ≤ b.own))

pub or_even : {a b : Pair} → Before a b → Upto a b
or_even (inl h) = inl h
or_even (inr h) = inr (h.0, omega arith)

-- an order of keys is proved by refuting the other
pub upto_by : (a b : Pair) → (Before b a → ⊥) → Upto a b
upto_by a b f = ⊎_elim (λ (h : a.whole < b.whole). inl h)
    (λ (h : b.whole ≤ a.whole). ⊎_elim (λ (e : b.whole < a.whole). absurd (f (inl e)))
    (λ (e : a.whole ≤ b.whole). ⊎_elim (λ (o : b.own < a.own). absurd (f (inr (omega arith, o)))) (λ (o : a.own ≤ b.own). inr (omega arith, o))
    (cases_lt b.own a.own))
    (cases_lt b.whole a.whole)) (cases_lt a.whole b.whole)

pub before_by : (a b : Pair) → (Upto b a → ⊥) → Before a b
before_by a b f = ⊎_elim (λ (h : a.whole < b.whole). inl h)
    (λ (h : b.whole ≤ a.whole). ⊎_elim (λ (e : b.whole < a.whole). absurd (f (inl e)))
    (λ (e : a.whole ≤ b.whole). ⊎_elim (λ (o : a.own < b.own). inr (omega arith, o)) (λ (o : b.own ≤ a.own). absurd (f (inr (omega arith, o))))
    (cases_lt a.own b.own))
    (cases_lt b.whole a.whole)) (cases_lt a.whole b.whole)

pub before_upto : (a b c : Pair) → Before a b → Upto b c → Before a c
before_upto a b c p q = before_by a c (λ w. omega arith)

-- a key and its numbers
pub record Reads (m : Meaning) (k : Key) (n : Pair) : Type 0 where
  pub whole : number m k.whole ≡ n.whole
  pub own : number m k.own ≡ n.own
  pub whole_proper : Proper m.kind k.whole
  pub own_proper : Proper m.kind k.own

module _ (m : Meaning) (a b : Key) (p q : Pair) (s : Reads m a p) (t : Reads m b q) where
  pub not_below : key_less a b ≡ false → Upto q p
  not_below h =
      let f = in_turn_failed (less a.whole b.whole) (less b.whole a.whole) (less a.own b.own) h in
      let w : number m b.whole ≤ number m a.whole = not_less_rank m.kind a.whole b.whole s.whole_proper t.whole_proper f.0 in
      ⊎_elim
      (λ (e : less b.whole a.whole ≡ true). inl
      (omega (arith, less_rank m.kind b.whole a.whole t.whole_proper s.whole_proper e, s.whole, t.whole)))
      (λ (e : less a.own b.own ≡ false). upto_by q p
      (λ v. omega (arith, w, not_less_rank m.kind a.own b.own s.own_proper t.own_proper e, s.whole, t.whole, s.own, t.own)))
      f.1

  pub below_not : Upto q p → key_less a b ≡ false
  below_not u = in_turn_fails (less a.whole b.whole) (less b.whole a.whole) (less a.own b.own)
      (rank_not_less m.kind a.whole b.whole s.whole_proper t.whole_proper (omega (arith, u, s.whole, t.whole)))
      (⊎_elim
      (λ (h : q.whole < p.whole). inl (rank_less m.kind b.whole a.whole t.whole_proper s.whole_proper (omega (arith, s.whole, t.whole))))
      (λ (h : (q.whole ≡ p.whole) × (q.own ≤ p.own)). inr
      (rank_not_less m.kind a.own b.own s.own_proper t.own_proper (omega (arith, s.own, t.own)))) u)

module _ (m : Meaning) (law : Lawful m) (gs : List Price) (b : Bounds m gs) where
  pub ahead_capped : (x : ℕ) → ahead m gs x ≤ limit m
  ahead_capped x = rank_capped m.kind (lookahead m gs x) (look_proper m law gs b x)

  pub stand_capped : (x : ℕ) → x < places m → stand m gs x ≤ limit m
  stand_capped x l = rank_capped m.kind (standing_at gs x) (stand_proper m law gs b x l)

  pub ahead_start : ahead m gs m.start ≡ 0
  ahead_start = ap (number m) (look_start m gs) ∙ rank_zero m.kind

  -- the sum over a link
  pub over_link : (n : ℕ) (l : Link) → link_at m n ≡ Some l →
      number m (sum m.kind (standing_at gs l.from) l.price) ≡ plus m (stand m gs l.from) (cost m l)
  over_link n l e = link_sum m law n l e (standing_at gs l.from) (b.low l.from (link_law m law n l e).from_in)

  over_proper : (n : ℕ) (l : Link) → link_at m n ≡ Some l → Proper m.kind (sum m.kind (standing_at gs l.from) l.price)
  over_proper n l e = sum_proper m.kind (standing_at gs l.from) l.price (stand_proper m law gs b l.from (link_law m law n l e).from_in)
      (price_proper m law n l e)

  pub ahead_below : (n : ℕ) (l : Link) → link_at m n ≡ Some l → ahead m gs l.to ≤ plus m (stand m gs l.from) (cost m l)
  ahead_below n l e = ⊎_elim
      (λ (q : l.to ≡ m.start). let z : ahead m gs l.to ≡ 0 = ap (ahead m gs) q ∙ ahead_start in omega arith)
      (λ (u : l.to ≡ m.start → ⊥). omega (
        arith,
        over_link n l e,
        not_less_rank m.kind (sum m.kind (standing_at gs l.from) l.price) (lookahead m gs l.to) (over_proper n l e)
            (look_proper m law gs b l.to) (look_below m gs n l e u),
      ))
      (cases_eq l.to m.start)

  pub ahead_by : (x : ℕ) → ahead m gs x < limit m → (x ≡ m.start) ⊎ By m gs x
  ahead_by x h = look_by m gs x (below_top_is_open m.kind (lookahead m gs x) h)

  -- even places
  pub even_rank : (x : ℕ) → x < places m → stand m gs x ≡ ahead m gs x → Even m gs x
  even_rank x l e = rank_same m.kind (standing_at gs x) (lookahead m gs x) (stand_proper m law gs b x l) (look_proper m law gs b x) e

  pub key_reads : (x : ℕ) → x < places m → Reads m (key m gs x) (pair m gs x)
  unfolding key
  key_reads x l =
      let s = standing_at gs x in
      let a = lookahead m gs x in
      let sp = stand_proper m law gs b x l in
      let ap' = look_proper m law gs b x in
      let r : number m (smaller s a) ≡ min (stand m gs x) (ahead m gs x) = rank_smaller m.kind s a sp ap' in
      let p = smaller_proper m.kind s a sp ap' in
      record {
        whole = rank_sum m.kind (smaller s a) (estimate_at m x) p (estimate_proper m law x l)
            (uncapped_estimate m law (smaller s a) x l (own_within m law gs b x l)) ∙ ap (λ (v : ℕ). plus m v (heuristic m x)) r;
        own = r;
        whole_proper = sum_proper m.kind (smaller s a) (estimate_at m x) p (estimate_proper m law x l);
        own_proper = p;
      }
