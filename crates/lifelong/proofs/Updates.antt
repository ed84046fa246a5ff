-- How far a change of a standing or of a price reaches.
use Rattle.std.proofs.Common.{◌≡◌, ℕ, true, cond, eqb, Some, None, Option, refl, ap, ◌∙◌}
use Rattle.std.proofs.lemmas.Bool.{eqb-true}
use Rattle.rows.specs.Rows.{Price, closed, sum, zero_of}
use Rattle.chart.specs.Meaning.{Link, link_at, with_price}
use Rattle.chart.specs.Questions.{leads_into}
use Rattle.chart.proofs.Least.{least_all, least_same, least_set}
use Rattle.chart.proofs.Limits.{link_law}
use Rattle.lifelong.specs.Standings.{lookahead, through}
use Rattle.lifelong.specs.Updates.{ClosedAhead, PriceReaches, StandingReaches}
use Rattle.lifelong.proofs.Lookaheads.{look_other}

pub standing_reaches : StandingReaches
unfolding lookahead
standing_reaches m gs hs p same q none = ap (cond (eqb q m.start) (zero_of m.kind))
    (least_same (leads_into q) (through m.kind hs) (through m.kind gs) m.links (λ n t. at n (link_at m n) refl t))
  where
    at : (n : ℕ) (o : Option Link) → link_at m n ≡ o → leads_into q o ≡ true → through m.kind hs o ≡ through m.kind gs o
    at n None e t = refl
    at n (Some l) e t = ap (λ v. sum m.kind v l.price) (same l.from (λ f. none n l e f (eqb-true l.to q t)))

-- with another price it leads where it led
leads_same : (q : ℕ) (p : Price) (o : Option Link) → leads_into q (with_price p o) ≡ leads_into q o
leads_same q p None = refl
leads_same q p (Some l) = refl

pub price_reaches : PriceReaches
unfolding lookahead
price_reaches m gs n p q f = ap (cond (eqb q m.start) (zero_of m.kind))
    (least_set (leads_into q) (through m.kind gs) m.links n (with_price p (link_at m n)) f (leads_same q p (link_at m n) ∙ f))

pub closed_ahead : ClosedAhead
closed_ahead m law gs h q u = look_other m gs q u ∙
    least_all (leads_into q) (through m.kind gs) (λ v. v ≡ closed) refl m.links (λ n. at n (link_at m n) refl)
  where
    at : (n : ℕ) (o : Option Link) → link_at m n ≡ o → through m.kind gs o ≡ closed
    at n None e = refl
    at n (Some l) e = ap (λ v. sum m.kind v l.price) (h l.from (link_law m law n l e).from_in)
