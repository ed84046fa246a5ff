-- Below the key of every uneven place, standings are true distances.
use Rattle.std.proofs.Common.{◌≡◌, ℕ, zero, suc, ◌<◌, ◌≤◌, min, false, List, [], ◌∷◌, Some, sym, ap, ◌∙◌, subst, inl, inr, ⊎_elim, arith}
use Rattle.std.proofs.lemmas.Bool.{cases_eq, cases_lt}
use Rattle.rows.specs.Rows.{Price, less, sum, zero_of}
use Rattle.rows.proofs.Sums.{sum_proper}
use Rattle.rows.proofs.Numbers.{below_top_is_open, not_less_rank, rank, rank_not_less, rank_sum, top_is_closed}
use Rattle.chart.specs.Lawful.{Consistent, Lawful}
use Rattle.chart.specs.Meaning.{Link, Meaning, estimate_at, link_at, places}
use Rattle.chart.specs.Routes.{Among, Chain, TrueDistance, begin, more}
use Rattle.chart.proofs.Chains.{chain_proper, chain_rank, chain_within, distance_by}
use Rattle.chart.proofs.Limits.{uncapped_estimate, estimate_proper, floor_proper, floor_rank, floor_within, link_law, link_sum, price_rank, within_more}
use Rattle.lifelong.specs.Standings.{lookahead}
use Rattle.lifelong.specs.Step.{Even}
use Rattle.lifelong.specs.Bounds.{Bounds}
use Rattle.lifelong.proofs.Lookaheads.{By, look_proper, look_start}
use Rattle.lifelong.proofs.Ranks.{Before, Pair, Upto, ahead, ahead_below, ahead_by, ahead_start, before_by, before_upto, cost, even_rank, heuristic, limit}
use Rattle.lifelong.proofs.Ranks.{number, or_even, over_link, pair, pair_at, plus, stand, upto_by}

-- Along a link keys rise: the one place where the law of estimates is used.
pub link_key : (m : Meaning) → Lawful m → (n : ℕ) (l : Link) → link_at m n ≡ Some l → (a b : ℕ) → a < limit m → plus m a (cost m l) ≤ b →
    Before (pair_at m l.from a) (pair_at m l.to b)
link_key m law n l e a b lt le =
    let k = m.kind in
    let w = link_law m law n l e in
    let from_proper = estimate_proper m law l.from w.from_in in
    let to_proper = estimate_proper m law l.to w.to_in in
    let f_proper = floor_proper m law n l e in
    let rises : less (sum k l.floor (estimate_at m l.to)) (estimate_at m l.from) ≡ false = subst (Consistent m) e (law.consistent n) in
    let s : rank k (sum k l.floor (estimate_at m l.to)) ≡ plus m (rank k l.floor) (heuristic m l.to) =
    rank_sum k l.floor (estimate_at m l.to) f_proper to_proper
    (uncapped_estimate m law l.floor l.to w.to_in (within_more k 1 4096 l.floor (omega arith) (floor_within m law n l e))) in
    let h : heuristic m l.from ≤ rank k (sum k l.floor (estimate_at m l.to)) =
    not_less_rank k (sum k l.floor (estimate_at m l.to)) (estimate_at m l.from)
    (sum_proper k l.floor (estimate_at m l.to) f_proper to_proper) from_proper rises in
    let f = floor_rank m law n l e in
    let f0 : 0 < rank k l.floor = f.0 in
    let f1 : rank k l.floor ≤ cost m l = f.1 in
    before_by (pair_at m l.from a) (pair_at m l.to b) (λ v. omega arith)

-- no uneven place has a key below k
abbrev pub LowerBound : Meaning → List Price → Pair → Type 0
LowerBound m gs k = (y : ℕ) → y < places m → (Even m gs y → ⊥) → Upto k (pair m gs y)

-- a chain to x that costs just the lookahead
pub record LeastChain (m : Meaning) (gs : List Price) (x : ℕ) (met : List ℕ) : Type 0 where
  pub chain : Chain m x met (lookahead m gs x)
  pub rising : (z : ℕ) → Among z met → ahead m gs z ≤ ahead m gs x

module _ (m : Meaning) (law : Lawful m) (gs : List Price) (b : Bounds m gs) (k : Pair) (low : LowerBound m gs k) where
  -- below k places are even
  pub even_below : (x v : ℕ) → x < places m → min (stand m gs x) (ahead m gs x) ≤ v → Before (pair_at m x v) k → Even m gs x
  even_below x v l le h = ⊎_elim (λ (e : stand m gs x ≡ ahead m gs x). even_rank m law gs b x l e)
      (λ (u : stand m gs x ≡ ahead m gs x → ⊥). let w : Upto k (pair m gs x) = low x l (λ e. u (ap (number m) e)) in absurd (omega arith))
      (cases_eq (stand m gs x) (ahead m gs x))

  -- where a chain's key is at most k, that of the chain up to its last link is below k
  last_link : (n : ℕ) (l : Link) → link_at m n ≡ Some l → {ps : List ℕ} {p : Price} → Chain m l.from ps p →
      Upto (pair_at m l.to (number m (sum m.kind p l.price))) k → Before (pair_at m l.from (number m p)) k
  last_link n l e {p = p} c u =
      let v = number m (sum m.kind p l.price) in
      let s : v ≡ plus m (number m p) (cost m l) = link_sum m law n l e p (chain_within m law c) in
      let first : Before (pair_at m l.from (number m p)) (pair_at m l.to v) = link_key m law n l e (number m p) v (chain_rank m law c) (omega arith) in
      before_upto (pair_at m l.from (number m p)) (pair_at m l.to v) k first u

  -- a chain whose key is below k bounds the standing of its last place
  pub reach : {x : ℕ} {ps : List ℕ} {p : Price} → Chain m x ps p → Before (pair_at m x (number m p)) k → stand m gs x ≤ number m p
  reach begin h =
      let z : ahead m gs m.start ≡ 0 = ahead_start m law gs b in
      let e : stand m gs m.start ≡ ahead m gs m.start =
      ap (number m) (even_below m.start (number m (zero_of m.kind)) law.start_in (omega arith) h) in
      omega arith
  reach (more {p = p} n l e o c f) h =
      let v = number m (sum m.kind p l.price) in
      let s : v ≡ plus m (number m p) (cost m l) = link_sum m law n l e p (chain_within m law c) in
      let r : stand m gs l.from ≤ number m p = reach c (last_link n l e c (or_even h)) in
      let a : ahead m gs l.to ≤ plus m (stand m gs l.from) (cost m l) = ahead_below m law gs b n l e in
      let ev : stand m gs l.to ≡ ahead m gs l.to = ap (number m) (even_below l.to v (link_law m law n l e).to_in (omega arith) h) in
      omega arith

  -- a chain whose key is at most k bounds the lookahead
  pub reach_ahead : {x : ℕ} {ps : List ℕ} {p : Price} → Chain m x ps p → Upto (pair_at m x (number m p)) k → ahead m gs x ≤ number m p
  reach_ahead begin h = let z : ahead m gs m.start ≡ 0 = ahead_start m law gs b in omega arith
  reach_ahead (more {p = p} n l e o c f) h =
      let v = number m (sum m.kind p l.price) in
      let s : v ≡ plus m (number m p) (cost m l) = link_sum m law n l e p (chain_within m law c) in
      let r : stand m gs l.from ≤ number m p = reach c (last_link n l e c h) in
      let a : ahead m gs l.to ≤ plus m (stand m gs l.from) (cost m l) = ahead_below m law gs b n l e in
      omega arith

  pub least_start : LeastChain m gs m.start (m.start ∷ [])
  least_start = record {
    chain = rw (look_start m gs) begin;
    rising = λ z. ⊎_elim (λ (p : z ≡ m.start). rw p (omega arith)) (λ (q : ⊥). absurd q);
  }

  pub by_value : (x : ℕ) (y : By m gs x) → ahead m gs x ≡ plus m (stand m gs y.link.from) (cost m y.link)
  by_value x y = ap (number m) y.gives ∙ over_link m law gs b y.number y.link y.named

  -- where an open lookahead has a key of at most k, the from place of its link has one below k, and is even
  from_below : (x : ℕ) (y : By m gs x) → ahead m gs x < limit m → Upto (pair_at m x (ahead m gs x)) k →
      Before (pair_at m y.link.from (stand m gs y.link.from)) k
  from_below x y op u =
      let l = y.link in
      let v : ahead m gs x ≡ plus m (stand m gs l.from) (cost m l) = by_value x y in
      let d : 0 < cost m l = price_rank m law y.number l y.named in
      let first : Before (pair_at m l.from (stand m gs l.from)) (pair_at m l.to (ahead m gs x)) =
      link_key m law y.number l y.named (stand m gs l.from) (ahead m gs x) (omega arith) (omega arith) in
      before_upto (pair_at m l.from (stand m gs l.from)) (pair_at m l.to (ahead m gs x)) k first (rw y.to_is u)

  pub from_even : (x : ℕ) (y : By m gs x) → ahead m gs x < limit m → Upto (pair_at m x (ahead m gs x)) k → Even m gs y.link.from
  from_even x y op u = even_below y.link.from (stand m gs y.link.from) (link_law m law y.number y.link y.named).from_in (omega arith)
      (from_below x y op u)

  pub from_low : (x : ℕ) (y : By m gs x) → ahead m gs x < limit m → Upto (pair_at m x (ahead m gs x)) k →
      Upto (pair_at m y.link.from (ahead m gs y.link.from)) k
  from_low x y op u = subst (λ (v : ℕ). Upto (pair_at m y.link.from v) k) (ap (number m) (from_even x y op u)) (or_even (from_below x y op u))

  -- and its lookahead is smaller
  pub from_ahead : (x : ℕ) (y : By m gs x) → ahead m gs x < limit m → Upto (pair_at m x (ahead m gs x)) k → ahead m gs y.link.from < ahead m gs x
  from_ahead x y op u =
      let v : ahead m gs x ≡ plus m (stand m gs y.link.from) (cost m y.link) = by_value x y in
      let e : stand m gs y.link.from ≡ ahead m gs y.link.from = ap (number m) (from_even x y op u) in
      let d : 0 < cost m y.link = price_rank m law y.number y.link y.named in omega arith

  -- one link more, that by which the lookahead comes about
  pub least_more : (x : ℕ) (y : By m gs x) → ahead m gs x < limit m → Upto (pair_at m x (ahead m gs x)) k → {ps : List ℕ} →
      LeastChain m gs y.link.from ps → LeastChain m gs x (x ∷ ps)
  least_more x y op u {ps} w =
      let l = y.link in
      let even : Even m gs l.from = from_even x y op u in
      let d : 0 < cost m l = price_rank m law y.number l y.named in
      let v : ahead m gs x ≡ plus m (stand m gs l.from) (cost m l) = by_value x y in
      let e : stand m gs l.from ≡ ahead m gs l.from = ap (number m) even in
      let to : ahead m gs l.to ≡ ahead m gs x = ap (ahead m gs) y.to_is in
      record {
        chain = subst (λ (z : ℕ). Chain m z (z ∷ ps) (lookahead m gs x)) y.to_is
            (subst (Chain m l.to (l.to ∷ ps)) (ap (λ (p : Price). sum m.kind p l.price) (sym even) ∙ sym y.gives)
            (more y.number l y.named (below_top_is_open m.kind l.price (omega arith)) w.chain
            (λ a. let r : ahead m gs l.to ≤ ahead m gs l.from = w.rising l.to a in omega arith)));
        rising = λ z. ⊎_elim (λ (p : z ≡ x). rw p (omega arith))
            (λ (q : Among z ps). let r : ahead m gs z ≤ ahead m gs l.from = w.rising z q in omega arith);
      }

  -- following such links back from x one comes to the start
  back : (n x : ℕ) → ahead m gs x < n → ahead m gs x < limit m → Upto (pair_at m x (ahead m gs x)) k → (ps : List ℕ) × LeastChain m gs x ps
  back zero x lt op u = absurd (omega arith)
  back (suc n) x lt op u = ⊎_elim (λ (e : x ≡ m.start). (m.start ∷ [], rw e least_start)) (by_link (back n)) (ahead_by m law gs b x op)
    where
      by_link : ((y : ℕ) → ahead m gs y < n → ahead m gs y < limit m → Upto (pair_at m y (ahead m gs y)) k → (ps : List ℕ) × LeastChain m gs y ps) →
          By m gs x → (ps : List ℕ) × LeastChain m gs x ps
      by_link ih y =
          let f = from_ahead x y op u in
          let w = ih y.link.from (omega arith) (omega arith) (from_low x y op u) in (x ∷ w.0, least_more x y op u w.1)

  -- a lookahead whose key is at most k is the true distance
  pub look_true : (x : ℕ) → Upto (pair_at m x (ahead m gs x)) k → TrueDistance m x (lookahead m gs x)
  look_true x u = distance_by m law x (lookahead m gs x)
      (λ ps q c. rank_not_less m.kind q (lookahead m gs x) (chain_proper m law c) (look_proper m law gs b x) (⊎_elim
      (λ (h : number m q < ahead m gs x). let r : ahead m gs x ≤ number m q = reach_ahead c (upto_by (pair_at m x (number m q)) k (λ w. omega arith)) in r)
      (λ (h : ahead m gs x ≤ number m q). h) (cases_lt (number m q) (ahead m gs x))))
      (⊎_elim
      (λ (h : ahead m gs x < limit m). let w = back (suc (ahead m gs x)) x (omega arith) h u in inl (w.0, w.1.chain))
      (λ (h : limit m ≤ ahead m gs x). inr (top_is_closed m.kind (lookahead m gs x) (look_proper m law gs b x) h)) (cases_lt (ahead m gs x) (limit m)))
