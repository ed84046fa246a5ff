-- A settled trace shows the cheapest route, and one that the chart alone fixes.
use Rattle.std.proofs.Common.{◌≡◌, ℕ, zero, suc, ◌<◌, ◌≤◌, true, false, cond, eqb, List, [], ◌∷◌, reverse, length, Some, None, Option, sym, refl, ap, ◌∙◌, subst, ⊎_elim, arith}
use Rattle.std.proofs.lemmas.List.{length-reverse, reverse-reverse}
use Rattle.std.proofs.lemmas.Bool.{both_ways, cases_Bool, cases_eq, cases_lt, cond-false, cond-true, eq-eqb, ne_eqb}
use Rattle.rows.specs.Rows.{Price, Proper, closed, is_open, less, open_at, sum}
use Rattle.rows.proofs.Order.{less_total}
use Rattle.rows.proofs.Sums.{sum_proper}
use Rattle.rows.proofs.Numbers.{below_top_is_open, rank_closed, rank_not_less, rank_open, rank_same}
use Rattle.chart.specs.Lawful.{Lawful}
use Rattle.chart.specs.Meaning.{Link, Meaning, link_at, places}
use Rattle.chart.specs.Routes.{Chain, NoRoute, TrueDistance}
use Rattle.chart.proofs.Chains.{chain_few, closed_distance, distance_closed, distance_within, one_distance}
use Rattle.chart.proofs.Limits.{link_law, link_sum, low_proper, price_proper}
use Rattle.chart.proofs.Prices.{least_price}
use Rattle.lifelong.specs.Standings.{lookahead, standing_at}
use Rattle.lifelong.specs.Step.{Even, settled}
use Rattle.lifelong.specs.Bounds.{Bounds}
use Rattle.lifelong.specs.Shown.{Cheapest, OneTrace, OneTrueTrace}
use Rattle.lifelong.specs.Trace.{Move, TrueMove, TrueTrace, arrived, move, moved, moving, misses, none, onto, shows, trace, traced, walk}
use Rattle.lifelong.proofs.Lookaheads.{By, look_below, look_proper, stand_proper}
use Rattle.lifelong.proofs.Moves.{Nearest, move_of, no_move, not_nearer, the_move}
use Rattle.lifelong.proofs.Ranks.{Before, Pair, Upto, ahead, ahead_below, ahead_by, before_upto, cost, limit, number, over_link, pair, pair_at, plus, stand}
use Rattle.lifelong.proofs.Ranks.{upto_by}
use Rattle.lifelong.proofs.Reach.{LowerBound, LeastChain, from_ahead, from_even, from_low, link_key, look_true, reach, least_more, least_start}
use Rattle.lifelong.proofs.Agreement.{settled_is}
use Rattle.lifelong.proofs.Steps.{settled_bound, settled_true}

-- the walk, move by move
pub data Walked (m : Meaning) (gs : List Price) : ℕ → List ℕ → Type 0 where
  at_start : Walked m gs m.start (m.start ∷ [])
  by_move : {ps : List ℕ} (x : ℕ) (a : Move) → (x ≡ m.start → ⊥) → move m gs x ≡ Some a → is_open a.cost ≡ true → Walked m gs a.from ps →
      Walked m gs x (x ∷ ps)

module _ (m : Meaning) (gs : List Price) where
  pub walk_at_start : (n x : ℕ) → x ≡ m.start → walk m gs n x ≡ Some (x ∷ [])
  unfolding walk
  walk_at_start zero x e = cond-true (eqb x m.start) (Some (x ∷ [])) None (eq-eqb x m.start e)
  walk_at_start (suc n) x e = cond-true (eqb x m.start) (Some (x ∷ [])) (moving x (move m gs x) (λ y. walk m gs n y)) (eq-eqb x m.start e)

  pub walk_away : (n x : ℕ) → (x ≡ m.start → ⊥) → walk m gs (suc n) x ≡ moving x (move m gs x) (λ y. walk m gs n y)
  unfolding walk
  walk_away n x u = cond-false (eqb x m.start) (Some (x ∷ [])) (moving x (move m gs x) (λ y. walk m gs n y)) (ne_eqb x m.start u)

  some_place : {x : ℕ} {ps : List ℕ} → Walked m gs x ps → 1 ≤ length ps
  some_place at_start = omega arith
  some_place (by_move x a u e o w) = omega arith

  pub walked_walk : (n : ℕ) {x : ℕ} {ps : List ℕ} → Walked m gs x ps → length ps ≤ suc n → walk m gs n x ≡ Some ps
  walked_walk n at_start l = walk_at_start n m.start refl
  walked_walk zero (by_move x a u e o w) l = absurd (omega (arith, some_place w))
  walked_walk (suc n) (by_move {ps = ps} x a u e o w) l =
      walk_away n x u ∙ ap (λ z. moving x z (λ y. walk m gs n y)) e
      ∙ cond-true (is_open a.cost) (onto x (walk m gs n a.from)) None o ∙ ap (onto x) (walked_walk n w (omega arith))

not_open : (p : Price) → is_open p ≡ false → p ≡ closed
not_open closed e = refl
not_open (open_at xs) e = absurd (both_ways true e refl)

-- a place that is even and open, with its key at most k
pub record Fixed (m : Meaning) (gs : List Price) (k : Pair) (x : ℕ) : Type 0 where
  pub even : Even m gs x
  pub opens : ahead m gs x < limit m
  pub low : Upto (pair_at m x (ahead m gs x)) k

module _ (m : Meaning) (law : Lawful m) (gs : List Price) (b : Bounds m gs) (k : Pair) (bound : LowerBound m gs k) where
  -- the move from a fixed place is by a link that gives its lookahead, of those the one from the lowest place
  record MoveBy (x : ℕ) : Type 0 where
    taken : Move
    is : move m gs x ≡ Some taken
    by : By m gs x
    from_is : by.link.from ≡ taken.from
    cost_is : taken.cost ≡ lookahead m gs x
    lowest : (n : ℕ) (l : Link) → link_at m n ≡ Some l → l.to ≡ x → sum m.kind (standing_at gs l.from) l.price ≡ lookahead m gs x →
        taken.from ≤ l.from

  moves_by : (x : ℕ) → (x ≡ m.start → ⊥) → (a : Move) → move m gs x ≡ Some a → By m gs x → MoveBy x
  moves_by x u a e y =
      let h : Nearest m gs x a = the_move m gs x a e in
      let c : sum m.kind (standing_at gs h.link.from) h.link.price ≡ a.cost = sym (ap (λ (z : Move). z.cost) h.is) in
      let f : h.link.from ≡ a.from = sym (ap (λ (z : Move). z.from) h.is) in
      let above : less (lookahead m gs x) a.cost ≡ false =
      rw y.gives (not_nearer (move_of m.kind gs y.number y.link) a (h.first y.number y.link y.named y.to_is)).0 in
      let below : less (sum m.kind (standing_at gs h.link.from) h.link.price) (lookahead m gs x) ≡ false =
      subst (λ (z : ℕ). less (sum m.kind (standing_at gs h.link.from) h.link.price) (lookahead m gs z) ≡ false) h.to_is
      (look_below m gs h.number h.link h.named (λ q. u (sym h.to_is ∙ q))) in
      let same : a.cost ≡ lookahead m gs x = less_total a.cost (lookahead m gs x) (rw c at below) above in
      record {
        taken = a;
        is = e;
        by = record { number = h.number; link = h.link; named = h.named; to_is = h.to_is; gives = sym (c ∙ same) };
        from_is = f;
        cost_is = same;
        lowest = λ n l d t q. (not_nearer (move_of m.kind gs n l) a (h.first n l d t)).1 (q ∙ sym same);
      }

  fixed_move : (x : ℕ) → (x ≡ m.start → ⊥) → Fixed m gs k x → MoveBy x
  fixed_move x u f = ⊎_elim (λ (e : x ≡ m.start). absurd (u e)) (λ (y : By m gs x). at y (move m gs x) refl) (ahead_by m law gs b x f.opens)
    where
      at : By m gs x → (o : Option Move) → move m gs x ≡ o → MoveBy x
      at y None e = absurd (no_move m gs x e y.number y.link y.named y.to_is)
      at y (Some a) e = moves_by x u a e y

  fixed_from : (x : ℕ) → Fixed m gs k x → (y : By m gs x) → Fixed m gs k y.link.from
  fixed_from x f y = record {
    even = from_even m law gs b k bound x y f.opens f.low;
    opens = omega (arith, from_ahead m law gs b k bound x y f.opens f.low, f.opens);
    low = from_low m law gs b k bound x y f.opens f.low;
  }

  pub fixed_true : (x : ℕ) → Fixed m gs k x → TrueDistance m x (standing_at gs x)
  fixed_true x f = rw f.even (look_true m law gs b k bound x f.low)

  -- a from place that would do by its true distance has no greater standing
  module _ (x : ℕ) (f : Fixed m gs k x) (n : ℕ) (l : Link) (p : Price) (e : link_at m n ≡ Some l) (t : l.to ≡ x) (d : TrueDistance m l.from p) where
    by_distance : number m (sum m.kind p l.price) ≡ plus m (number m p) (cost m l)
    by_distance = link_sum m law n l e p (distance_within m law l.from p d)

    standing_low : plus m (number m p) (cost m l) ≤ ahead m gs x → stand m gs l.from ≤ number m p
    standing_low h =
        let o : ahead m gs x < limit m = f.opens in ⊎_elim
        (λ (w : (ps : List ℕ) × Chain m l.from ps p).
        let first : Before (pair_at m l.from (number m p)) (pair_at m l.to (ahead m gs x)) =
        link_key m law n l e (number m p) (ahead m gs x) (omega arith) h in
        reach m law gs b k bound w.1 (before_upto (pair_at m l.from (number m p)) (pair_at m l.to (ahead m gs x)) k first (rw t f.low)))
        (λ (w : (p ≡ closed) × ((ps : List ℕ) (q : Price) → Chain m l.from ps q → ⊥)).
        let z : number m p ≡ limit m = ap (number m) w.0 ∙ rank_closed m.kind in absurd (omega arith)) d.met

    ahead_low : ahead m gs x ≤ plus m (stand m gs l.from) (cost m l)
    ahead_low = subst (λ (z : ℕ). ahead m gs z ≤ plus m (stand m gs l.from) (cost m l)) t (ahead_below m law gs b n l e)

    by_proper : Proper m.kind (sum m.kind p l.price)
    by_proper = sum_proper m.kind p l.price (low_proper m law p (distance_within m law l.from p d)) (price_proper m law n l e)

    none_less : less (sum m.kind p l.price) (lookahead m gs x) ≡ false
    none_less = rank_not_less m.kind (sum m.kind p l.price) (lookahead m gs x) by_proper (look_proper m law gs b x) (⊎_elim
        (λ (h : plus m (number m p) (cost m l) < ahead m gs x). let s = standing_low (omega arith) in let a = ahead_low in absurd (omega arith))
        (λ (h : ahead m gs x ≤ plus m (number m p) (cost m l)). omega (arith, by_distance)) (cases_lt (plus m (number m p) (cost m l)) (ahead m gs x)))

    tie_stands : sum m.kind p l.price ≡ lookahead m gs x → sum m.kind (standing_at gs l.from) l.price ≡ lookahead m gs x
    tie_stands q =
        let r : plus m (number m p) (cost m l) ≡ ahead m gs x = sym by_distance ∙ ap (number m) q in
        let s : stand m gs l.from ≤ number m p = standing_low (omega arith) in
        let a = ahead_low in
        rank_same m.kind (sum m.kind (standing_at gs l.from) l.price) (lookahead m gs x)
        (sum_proper m.kind (standing_at gs l.from) l.price (stand_proper m law gs b l.from (link_law m law n l e).from_in)
        (price_proper m law n l e)) (look_proper m law gs b x)
        (omega (arith, over_link m law gs b n l e))

  -- so the move is one by true distances
  true_move : (x : ℕ) → Fixed m gs k x → (h : MoveBy x) → TrueMove m x h.taken.from
  true_move x f h =
      let y = h.by in
      let gives : sum m.kind (standing_at gs y.link.from) y.link.price ≡ lookahead m gs x = sym y.gives in
      record {
        number = y.number;
        link = y.link;
        named = y.named;
        from_is = h.from_is;
        to_is = y.to_is;
        far = standing_at gs y.link.from;
        is_far = subst (λ (z : ℕ). TrueDistance m z (standing_at gs y.link.from)) h.from_is (fixed_true y.link.from (fixed_from x f y));
        least = λ n l p e t d. rw gives (none_less x f n l p e t d);
        lowest = λ n l p e t d q. h.lowest n l e t (tie_stands x f n l p e t d (q ∙ gives));
      }

  -- the walk from a fixed place, with its chain
  pub record Shown (x : ℕ) : Type 0 where
    pub met : List ℕ
    pub least_chain : LeastChain m gs x met
    pub walked : Walked m gs x met
    pub true_trace : TrueTrace m x met

  shown_start : (x : ℕ) → x ≡ m.start → Shown x
  shown_start x e = rw e (record { met = m.start ∷ []; least_chain = least_start m law gs b k bound; walked = at_start; true_trace = arrived })

  pub shown : (n x : ℕ) → ahead m gs x < n → Fixed m gs k x → Shown x
  shown zero x lt f = absurd (omega arith)
  shown (suc n) x lt f = ⊎_elim (shown_start x) (on (shown n)) (cases_eq x m.start)
    where
      on : ((y : ℕ) → ahead m gs y < n → Fixed m gs k y → Shown y) → (x ≡ m.start → ⊥) → Shown x
      on ih u =
          let h : MoveBy x = fixed_move x u f in
          let y = h.by in
          let s : Shown y.link.from = ih y.link.from (omega (arith, from_ahead m law gs b k bound x y f.opens f.low)) (fixed_from x f y) in
          record {
            met = x ∷ s.met;
            least_chain = least_more m law gs b k bound x y f.opens f.low s.least_chain;
            walked = by_move x h.taken u h.is (ap is_open h.cost_is ∙ below_top_is_open m.kind (lookahead m gs x) f.opens)
                (subst (λ (z : ℕ). Walked m gs z s.met) h.from_is s.walked);
            true_trace = moved x u (true_move x f h) (subst (λ (z : ℕ). TrueTrace m z s.met) h.from_is s.true_trace);
          }

module _ (m : Meaning) (law : Lawful m) (gs : List Price) (b : Bounds m gs) (t : settled m gs ≡ true) where
  settled_fixed : is_open (standing_at gs m.goal) ≡ true → Fixed m gs (pair m gs m.goal) m.goal
  settled_fixed o =
      let s = settled_is m gs t in
      let e : stand m gs m.goal ≡ ahead m gs m.goal = ap (number m) s.even in
      record {
        even = s.even;
        opens = omega (arith, rank_open m.kind (standing_at gs m.goal) (stand_proper m law gs b m.goal law.goal_in) o);
        low = upto_by (pair_at m m.goal (ahead m gs m.goal)) (pair m gs m.goal) (λ w. omega arith);
      }

  pub settled_distance : TrueDistance m m.goal (standing_at gs m.goal)
  settled_distance = settled_true m law gs b (settled_is m gs t)

  pub shows_cheapest : is_open (standing_at gs m.goal) ≡ true → (ps : List ℕ) × Cheapest m gs ps
  shows_cheapest o =
      let s = settled_is m gs t in
      let k = pair m gs m.goal in
      let w : Shown m law gs b k (settled_bound m law gs b s) m.goal =
      shown m law gs b k (settled_bound m law gs b s) (suc (ahead m gs m.goal)) m.goal (omega arith) (settled_fixed o) in
      let c : Chain m m.goal w.met (standing_at gs m.goal) = subst (Chain m m.goal w.met) (sym s.even) w.least_chain.chain in
      let f : length w.met ≤ places m = chain_few m law c in
      let r : reverse (reverse w.met) ≡ w.met = reverse-reverse w.met in (
        reverse w.met,
        record {
          shown = cond-true (is_open (standing_at gs m.goal)) (traced (walk m gs (places m) m.goal)) none o ∙ ap traced
              (walked_walk m gs (places m) w.walked (omega arith));
          moves = omega (arith, length-reverse w.met);
          route = subst (λ ps. Chain m m.goal ps (standing_at gs m.goal)) (sym r) c;
          as_places = least_price m law c settled_distance;
          distance = settled_distance;
          least = λ qs q d. settled_distance.least (reverse qs) q d;
          by_distances = subst (TrueTrace m m.goal) (sym r) w.true_trace;
        },
      )

  pub closed_no_route : standing_at gs m.goal ≡ closed → NoRoute m
  closed_no_route e ps p c = distance_closed m law m.goal (standing_at gs m.goal) settled_distance e (reverse ps) p c

  pub no_route_closed : NoRoute m → standing_at gs m.goal ≡ closed
  no_route_closed h = closed_distance m law m.goal (standing_at gs m.goal) settled_distance
      (λ ps q c. h (reverse ps) q (subst (λ xs. Chain m m.goal xs q) (sym (reverse-reverse ps)) c))

  pub closed_shows_none : standing_at gs m.goal ≡ closed → trace m gs ≡ none
  closed_shows_none e = ap (λ p. cond (is_open p) (traced (walk m gs (places m) m.goal)) none) e

  -- an open goal has a route to show
  none_is_closed : trace m gs ≡ none → standing_at gs m.goal ≡ closed
  none_is_closed e = ⊎_elim
      (λ (o : is_open (standing_at gs m.goal) ≡ true). let z : ◌≡◌ {A = ℕ} 0 1 = cc (shows_cheapest o).1.shown in absurd (omega arith))
      (λ (o : is_open (standing_at gs m.goal) ≡ false). not_open (standing_at gs m.goal) o) (cases_Bool (is_open (standing_at gs m.goal)))

  pub never_misses : trace m gs ≡ misses → ⊥
  never_misses e = ⊎_elim
      (λ (o : is_open (standing_at gs m.goal) ≡ true). let z : ◌≡◌ {A = ℕ} 0 1 = cc (shows_cheapest o).1.shown in omega arith)
      (λ (o : is_open (standing_at gs m.goal) ≡ false).
      let n : trace m gs ≡ none = closed_shows_none (not_open (standing_at gs m.goal) o) in let z : ◌≡◌ {A = ℕ} 0 1 = cc in omega arith)
      (cases_Bool (is_open (standing_at gs m.goal)))

  pub none_no_route : (trace m gs ≡ none → NoRoute m) × (NoRoute m → trace m gs ≡ none)
  none_no_route = ((λ e. closed_no_route (none_is_closed e)), (λ h. closed_shows_none (no_route_closed h)))

-- the route is a function of the chart alone

one_move : (m : Meaning) (x y z : ℕ) → TrueMove m x y → TrueMove m x z → y ≡ z
one_move m x y z p q =
    let dq : TrueDistance m q.link.from q.far = subst (λ (w : ℕ). TrueDistance m w q.far) (sym q.from_is) q.is_far in
    let dp : TrueDistance m p.link.from p.far = subst (λ (w : ℕ). TrueDistance m w p.far) (sym p.from_is) p.is_far in
    let a = p.least q.number q.link q.far q.named q.to_is dq in
    let c = q.least p.number p.link p.far p.named p.to_is dp in
    let same : sum m.kind q.far q.link.price ≡ sum m.kind p.far p.link.price =
    less_total (sum m.kind q.far q.link.price) (sum m.kind p.far p.link.price) a c in
    omega (
      arith,
      p.lowest q.number q.link q.far q.named q.to_is dq same,
      q.lowest p.number p.link p.far p.named p.to_is dp
          (sym same),
      p.from_is,
      q.from_is,
    )

same_trace : (m : Meaning) {x y : ℕ} {ps qs : List ℕ} → x ≡ y → TrueTrace m x ps → TrueTrace m y qs → ps ≡ qs
same_trace m e arrived arrived = refl
same_trace m e arrived (moved y u p t) = absurd (u (sym e))
same_trace m e (moved x u p t) arrived = absurd (u e)
same_trace m e (moved {y = y} {ps = ps} x u p t) (moved {y = z} {ps = qs} w v q s) =
    let r : ps ≡ qs = same_trace m (one_move m x y z p (subst (λ (c : ℕ). TrueMove m c z) (sym e) q)) t s in cc

pub one_true_trace : OneTrueTrace
one_true_trace m law x ps qs p q = same_trace m refl p q

pub one_trace : OneTrace
one_trace m law gs hs bg bh tg th =
    let e : standing_at gs m.goal ≡ standing_at hs m.goal =
    one_distance m law m.goal (standing_at gs m.goal) (standing_at hs m.goal) (settled_distance m law gs bg tg)
    (settled_distance m law hs bh th) in
    ⊎_elim
    (λ (o : is_open (standing_at gs m.goal) ≡ true).
    let p = shows_cheapest m law gs bg tg o in
    let q = shows_cheapest m law hs bh th (ap is_open (sym e) ∙ o) in
    let r : reverse p.0 ≡ reverse q.0 = same_trace m refl p.1.by_distances q.1.by_distances in
    p.1.shown ∙ ap shows (sym (reverse-reverse p.0) ∙ ap reverse r ∙ reverse-reverse q.0) ∙ sym q.1.shown)
    (λ (o : is_open (standing_at gs m.goal) ≡ false).
    let c = not_open (standing_at gs m.goal) o in
    closed_shows_none m law gs bg tg c ∙ sym (closed_shows_none m law hs bh th (sym e ∙ c)))
    (cases_Bool (is_open (standing_at gs m.goal)))
