-- The lookahead: what it is at the start and along links, and how large it can be.
use Rattle.std.proofs.Common.{◌≡◌, ℕ, ◌<◌, true, false, eqb, ◌⊎◌, List, Some, None, Option, refl, ◌∙◌, inl, inr, ⊎_elim, arith}
use Rattle.std.proofs.lemmas.Bool.{both_ways, cases_eq, cond-false, cond-true, eq-eqb, eqb-true, ne_eqb}
use Rattle.rows.specs.Rows.{Price, Proper, is_open, less, smaller, sum, zero_of}
use Rattle.chart.specs.Lawful.{Lawful}
use Rattle.chart.specs.Limits.{Within}
use Rattle.chart.specs.Meaning.{Link, Meaning, link_at, places}
use Rattle.chart.specs.Questions.{leads_into}
use Rattle.chart.specs.Routes.{least_over}
use Rattle.chart.proofs.Least.{least_all, least_below, least_met}
use Rattle.chart.proofs.Limits.{link_law, low_proper, price_within, within_more, within_proper, within_smaller, within_sum, within_zero}
use Rattle.lifelong.specs.Standings.{lookahead, standing_at, through}
use Rattle.lifelong.specs.Bounds.{Bounds}

module _ (m : Meaning) (gs : List Price) where
  pub look_start : lookahead m gs m.start ≡ zero_of m.kind
  unfolding lookahead
  look_start = cond-true (eqb m.start m.start) (zero_of m.kind) (least_over (leads_into m.start) (through m.kind gs) m.links)
      (eq-eqb m.start m.start refl)

  pub look_other : (x : ℕ) → (x ≡ m.start → ⊥) → lookahead m gs x ≡ least_over (leads_into x) (through m.kind gs) m.links
  unfolding lookahead
  look_other x u = cond-false (eqb x m.start) (zero_of m.kind) (least_over (leads_into x) (through m.kind gs) m.links) (ne_eqb x m.start u)

  -- past the start, no link into a place costs less than its lookahead
  pub look_below : (n : ℕ) (l : Link) → link_at m n ≡ Some l → (l.to ≡ m.start → ⊥) →
      less (sum m.kind (standing_at gs l.from) l.price) (lookahead m gs l.to) ≡ false
  look_below n l e u = rw (look_other l.to u) (least_below (leads_into l.to) (through m.kind gs) m.links n l e (eq-eqb l.to l.to refl))

  -- the link by which the lookahead of x comes about
  pub record By (x : ℕ) : Type 0 where
    pub number : ℕ
    pub link : Link
    pub named : link_at m number ≡ Some link
    pub to_is : link.to ≡ x
    pub gives : lookahead m gs x ≡ sum m.kind (standing_at gs link.from) link.price

  by_link : (x n : ℕ) (o : Option Link) → link_at m n ≡ o → leads_into x o ≡ true → lookahead m gs x ≡ through m.kind gs o → By x
  by_link x n None e t g = absurd (both_ways false refl t)
  by_link x n (Some l) e t g = record { number = n; link = l; named = e; to_is = eqb-true l.to x t; gives = g }

  pub look_by : (x : ℕ) → is_open (lookahead m gs x) ≡ true → (x ≡ m.start) ⊎ By x
  look_by x o = ⊎_elim (λ e. inl e)
      (λ (u : x ≡ m.start → ⊥).
      let q = look_other x u in
      let t = least_met (leads_into x) (through m.kind gs) m.links (rw q at o) in
      inr (by_link x t.number (link_at m t.number) refl t.passes (q ∙ t.gives))) (cases_eq x m.start)

module _ (m : Meaning) (law : Lawful m) (gs : List Price) (b : Bounds m gs) where
  through_within : (n : ℕ) (o : Option Link) → link_at m n ≡ o → Within m.kind 4096 (through m.kind gs o)
  through_within n None e = tt
  through_within n (Some l) e =
      within_sum m.kind 4095 (standing_at gs l.from) l.price (b.low l.from (link_law m law n l e).from_in) (price_within m law n l e)

  pub look_within : (x : ℕ) → Within m.kind 4096 (lookahead m gs x)
  look_within x = ⊎_elim
      (λ (e : x ≡ m.start). rw (e, look_start m gs) (within_zero m law 4096))
      (λ (u : x ≡ m.start → ⊥). rw (look_other m gs x u)
      (least_all (leads_into x) (through m.kind gs) (Within m.kind 4096) tt m.links (λ n. through_within n (link_at m n) refl)))
      (cases_eq x m.start)

  pub look_proper : (x : ℕ) → Proper m.kind (lookahead m gs x)
  look_proper x = within_proper m law (lookahead m gs x) (look_within x)

  pub stand_proper : (x : ℕ) → x < places m → Proper m.kind (standing_at gs x)
  stand_proper x l = low_proper m law (standing_at gs x) (b.low x l)

  -- the smaller of the two has room for an estimate
  pub own_within : (x : ℕ) → x < places m → Within m.kind 4096 (smaller (standing_at gs x) (lookahead m gs x))
  own_within x l = within_smaller m.kind 4096 (standing_at gs x) (lookahead m gs x)
      (within_more m.kind 4095 4096 (standing_at gs x) (omega arith) (b.low x l)) (look_within x)
