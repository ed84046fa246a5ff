-- Up to date again, place by place, after the standing of place u has changed.
use Rattle.std.proofs.Common.{◌≡◌, ℕ, ◌+◌, ◌<◌, ◌≤◌, false, eqb, get_or, set, Some, None, Option, sym, refl, ap, ◌∙◌, ⊎_elim, arith}
use Rattle.std.proofs.lemmas.List.{get_or-set_other}
use Rattle.std.proofs.lemmas.Bool.{and_from, and_left, and_right, both_ways, cases_eq, cases_lt, eq-eqb, ne_eqb}
use Rattle.std.specs.Option.{option_map}
use Rattle.rows.specs.Rows.{Kind, Price, closed}
use Rattle.chart.specs.Lawful.{LinkLaw}
use Rattle.chart.specs.Meaning.{Link, Meaning, link_at, places}
use Rattle.chart.specs.Questions.{Next, leads_out}
use Rattle.chart.specs.Routes.{joins}
use Rattle.lifelong.specs.Standings.{standing_at}
use Rattle.lifelong.specs.Updates.{NoLink}
use Rattle.lifelong.proofs.Updates.{standing_reaches}
use Rattle.lpa_star.specs.Memory.{InHeapOrder, Memory, Waiting, key_kept}
use Rattle.lpa_star.specs.UpToDate.{UpToDate, UpToDateBut, to_of}
use Rattle.lpa_star.proofs.Right.{Updated, each_right, right_kept, still_inside, up_to_date}

-- a link that leads elsewhere, or from elsewhere, does not join the two
joins_out : (u q : ℕ) (l : Option Link) → leads_out u l ≡ false → joins u q l ≡ false
joins_out u q None e = refl
joins_out u q (Some l) e = and_left (eqb l.from u) (eqb l.to q) e

joins_to : (u q : ℕ) (l : Option Link) → (q ≡ to_of l u → ⊥) → joins u q l ≡ false
joins_to u q None n = refl
joins_to u q (Some l) n = and_right (eqb l.from u) (eqb l.to q) (ne_eqb l.to q (λ e. n (sym e)))

pub to_inside : (k : Kind) (n h u : ℕ) (l : Option Link) → u < n → LinkLaw k n h l → to_of l u < n
to_inside k n h u None a e = a
to_inside k n h u (Some l) a e = e.to_in

-- the place that was answered of a link, or none
pub led : (l : Option Link) (u x : ℕ) → Some x ≡ option_map (λ (k : Link). k.to) l → x ≡ to_of l u
led None u x e = let z : ◌≡◌ {A = ℕ} 0 1 = cc in absurd (omega arith)
led (Some l) u x e = cc

pub led_nowhere : (l : Option Link) (u : ℕ) → None ≡ option_map (λ (k : Link). k.to) l → leads_out u l ≡ false
led_nowhere None u e = refl
led_nowhere (Some l) u e = let z : ◌≡◌ {A = ℕ} 0 1 = cc in absurd (omega arith)

module _ (m : Meaning) (u : ℕ) where
  none_joins : (q : ℕ) → ((j : ℕ) → joins u q (link_at m j) ≡ false) → NoLink m u q
  none_joins q h n l e f t = both_ways (joins u q (Some l)) (ap (joins u q) (sym e) ∙ h n)
      (and_from (eqb l.from u) (eqb l.to q) (eq-eqb l.from u f) (eq-eqb l.to q t))

  -- a new standing for u
  pub restood : (d e : Memory) (x : Price) → e.standings ≡ set d.standings u x → e.lookaheads ≡ d.lookaheads → e.keys ≡ d.keys →
      ((q : ℕ) → (Waiting d q → Waiting e q) × (Waiting e q → Waiting d q)) → (InHeapOrder d → InHeapOrder e) → UpToDate m d → UpToDateBut m u 0 e
  restood d e x es el ek w o h =
      let stands : (q : ℕ) → (q ≡ u → ⊥) → standing_at e.standings q ≡ standing_at d.standings q =
      λ q ne. ap (λ xs. get_or xs q closed) es ∙ get_or-set_other d.standings u q x closed ne in
      record {
        right = λ q l ne j. right_kept m m d e q (stands q ne)
            (standing_reaches m d.standings e.standings u stands q (none_joins q (λ i. j i (omega arith)))) (λ s. refl)
            (record { look = ap (λ xs. get_or xs q closed) el; key = ap (λ xs. key_kept xs q) ek; into = (w q).0; out = (w q).1 }) (h.right q l);
        inside = λ q z. h.inside q ((w q).1 z);
        sorted = o h.sorted;
      }

  module _ (d e : Memory) (p : ℕ) (t : Updated m d e p) (lp : p < places m) where
    -- the place to which one link leads from u is right
    pub one_less : (k n : ℕ) → Next (leads_out u) m.links k (Some n) → p ≡ to_of (link_at m n) u → UpToDateBut m u k d → UpToDateBut m u (n + 1) e
    one_less k n next ep h = record {
      right = λ q l ne j. each_right m d e p t q (λ other. h.right q l ne (λ i a. ⊎_elim
          (λ (lt : i < n). joins_out u q (link_at m i) (next.3 i a lt))
          (λ (ge : n ≤ i). ⊎_elim
          (λ (eq : i ≡ n). joins_to u q (link_at m i) (λ z. other (z ∙ ap (λ y. to_of (link_at m y) u) eq ∙ sym ep)))
          (λ (gt : i ≡ n → ⊥). j i (omega arith)) (cases_eq i n)) (cases_lt i n)));
      inside = still_inside m d e p t lp h.inside;
      sorted = t.order h.sorted;
    }

    -- no link is left, and u itself is right
    pub none_less : (k : ℕ) → Next (leads_out u) m.links k None → p ≡ u → UpToDateBut m u k d → UpToDate m e
    none_less k next ep h = up_to_date m d e p t lp
        (λ q l ne. h.right q l (λ z. ne (z ∙ sym ep)) (λ i a. joins_out u q (link_at m i) (next i a))) h.inside h.sorted
