-- What chains are like in a lawful chart, and that a place has one true distance.
use Rattle.std.proofs.Common.{◌≡◌, ℕ, suc, ◌<◌, ◌≤◌, true, false, ◌⊎◌, List, [], ◌∷◌, length, refl, ap, inl, inr, ⊎_elim, arith}
use Rattle.std.proofs.lemmas.Bool.{both_ways}
use Rattle.rows.specs.Rows.{Price, Proper, closed, is_open, less, open_at, zero_of}
use Rattle.rows.proofs.Order.{less_total}
use Rattle.rows.proofs.Numbers.{rank, rank_not_less, rank_open, rank_zero, top}
use Rattle.chart.specs.Lawful.{Lawful}
use Rattle.chart.specs.Limits.{Within}
use Rattle.chart.specs.Meaning.{Meaning, places}
use Rattle.chart.specs.Routes.{Among, Chain, Distinct, TrueDistance, begin, more}
use Rattle.chart.proofs.Pigeonhole.{pigeonhole}
use Rattle.chart.proofs.Limits.{uncapped_link, link_law, low_proper, price_within, within_more, within_sum, within_zero, zero_proper}

-- its last place stands first
pub chain_head : (m : Meaning) {x : ℕ} {ps : List ℕ} {p : Price} → Chain m x ps p → (rest : List ℕ) × (ps ≡ x ∷ rest)
chain_head m begin = ([], refl)
chain_head m (more {ps = ps} n l e o c f) = (ps, refl)

chain_distinct : (m : Meaning) {x : ℕ} {ps : List ℕ} {p : Price} → Chain m x ps p → Distinct ps
chain_distinct m begin = ((λ i. i), tt)
chain_distinct m (more n l e o c f) = (f, chain_distinct m c)

open_below : (p : Price) → is_open p ≡ true → less p closed ≡ true
open_below closed h = absurd (both_ways false refl h)
open_below (open_at xs) h = refl

module _ (m : Meaning) (law : Lawful m) where
  places_in : {x : ℕ} {ps : List ℕ} {p : Price} → Chain m x ps p → (y : ℕ) → Among y ps → y < places m
  places_in begin y i = ⊎_elim (λ (q : y ≡ m.start). rw q law.start_in) (λ (z : ⊥). absurd z) i
  places_in (more {ps = ps} n l e o c f) y i = ⊎_elim
      (λ (q : y ≡ l.to). rw q (link_law m law n l e).to_in) (λ (j : Among y ps). places_in c y j) i

  pub chain_in : {x : ℕ} {ps : List ℕ} {p : Price} → Chain m x ps p → x < places m
  chain_in begin = law.start_in
  chain_in (more n l e o c f) = (link_law m law n l e).to_in

  -- it meets no more places than the chart has
  pub chain_few : {x : ℕ} {ps : List ℕ} {p : Price} → Chain m x ps p → length ps ≤ places m
  chain_few {ps = ps} c = pigeonhole (places m) ps (chain_distinct m c) (places_in c)

  record Counted (ps : List ℕ) (p : Price) : Type 0 where
    links : ℕ
    counts : length ps ≡ suc links
    within : Within m.kind links p

  counted : {x : ℕ} {ps : List ℕ} {p : Price} → Chain m x ps p → Counted ps p
  counted begin = record { links = 0; counts = refl; within = within_zero m law 0 }
  counted (more {ps = ps} {p = p} n l e o c f) = let t = counted c in record {
    links = suc t.links;
    counts = ap suc t.counts;
    within = within_sum m.kind t.links p l.price t.within (price_within m law n l e);
  }

  -- so it has at most 4,095 links
  pub chain_within : {x : ℕ} {ps : List ℕ} {p : Price} → Chain m x ps p → Within m.kind 4095 p
  chain_within {p = p} c = let t = counted c in within_more m.kind t.links 4095 p (omega (arith, chain_few c, law.places_few, t.counts)) t.within

  pub chain_proper : {x : ℕ} {ps : List ℕ} {p : Price} → Chain m x ps p → Proper m.kind p
  chain_proper {p = p} c = low_proper m law p (chain_within c)

  -- and an open price
  pub chain_open : {x : ℕ} {ps : List ℕ} {p : Price} → Chain m x ps p → is_open p ≡ true
  chain_open begin = refl
  chain_open (more {p = p} n l e o c f) = uncapped_link m law p l.price (chain_within c) (price_within m law n l e) (chain_open c) o

  pub chain_rank : {x : ℕ} {ps : List ℕ} {p : Price} → Chain m x ps p → rank m.kind p < top m.kind
  chain_rank {p = p} c = rank_open m.kind p (chain_proper c) (chain_open c)

  -- a price that no chain is below, closed or met by a chain, is the true distance
  pub distance_by : (x : ℕ) (p : Price) → ((ps : List ℕ) (q : Price) → Chain m x ps q → less q p ≡ false) → ((ps : List ℕ) × Chain m x ps p) ⊎ (p ≡ closed) →
      TrueDistance m x p
  distance_by x p least met = record {
    least = least;
    met = ⊎_elim (λ (w : (ps : List ℕ) × Chain m x ps p). inl w)
        (λ (e : p ≡ closed). inr (e, λ ps q c. both_ways (less q closed) (rw e at (least ps q c)) (open_below q (chain_open c)))) met;
  }

  pub distance_within : (x : ℕ) (p : Price) → TrueDistance m x p → Within m.kind 4095 p
  distance_within x p d = ⊎_elim (λ (w : (ps : List ℕ) × Chain m x ps p). chain_within w.1)
      (λ (w : (p ≡ closed) × ((ps : List ℕ) (q : Price) → Chain m x ps q → ⊥)). rw w.0 tt) d.met

  not_above : (x : ℕ) (p q : Price) → TrueDistance m x p → TrueDistance m x q → less q p ≡ false
  not_above x p q d e = ⊎_elim (λ (w : (ps : List ℕ) × Chain m x ps q). d.least w.0 q w.1)
      (λ (w : (q ≡ closed) × ((ps : List ℕ) (r : Price) → Chain m x ps r → ⊥)). rw w.0 refl) e.met

  -- a place has one true distance
  pub one_distance : (x : ℕ) (p q : Price) → TrueDistance m x p → TrueDistance m x q → p ≡ q
  one_distance x p q d e = less_total p q (not_above x q p e d) (not_above x p q d e)

  -- zero at the start
  pub start_distance : TrueDistance m m.start (zero_of m.kind)
  start_distance = distance_by m.start (zero_of m.kind)
      (λ ps q c. rank_not_less m.kind q (zero_of m.kind) (chain_proper c) (zero_proper m law) (omega (arith, rank_zero m.kind)))
      (inl (m.start ∷ [], begin))

  -- closed exactly when no chain leads there
  pub distance_closed : (x : ℕ) (p : Price) → TrueDistance m x p → p ≡ closed → (ps : List ℕ) (q : Price) → Chain m x ps q → ⊥
  distance_closed x p d e ps q c = both_ways (less q closed) (rw e at (d.least ps q c)) (open_below q (chain_open c))

  pub closed_distance : (x : ℕ) (p : Price) → TrueDistance m x p → ((ps : List ℕ) (q : Price) → Chain m x ps q → ⊥) → p ≡ closed
  closed_distance x p d h = ⊎_elim (λ (w : (ps : List ℕ) × Chain m x ps p). absurd (h w.0 p w.1))
      (λ (w : (p ≡ closed) × ((ps : List ℕ) (q : Price) → Chain m x ps q → ⊥)). w.0) d.met
