-- Another price for a link, and the place to which it leads put right.
use Rattle.std.proofs.Common.{◌≡◌, ℕ, ◌<◌, false, Some, None, Option, sym, refl, ap, ◌∙◌, subst, arith}
use Rattle.std.proofs.lemmas.Bool.{eqb-false, ne_eqb}
use Rattle.rows.specs.Rows.{Kind, Price}
use Rattle.chart.specs.Meaning.{Link, Meaning, link_at, places, priced}
use Rattle.chart.specs.Questions.{leads_into}
use Rattle.chart.specs.Refusals.{Refusal, refusal_at, unless}
use Rattle.lifelong.proofs.Updates.{price_reaches}
use Rattle.lpa_star.specs.Memory.{Memory}
use Rattle.lpa_star.specs.UpToDate.{SameAt, UpToDate, to_of}
use Rattle.lpa_star.proofs.Right.{Updated, right_kept, up_to_date}

leads_elsewhere : (q o : ℕ) (l : Option Link) → (q ≡ to_of l o → ⊥) → leads_into q l ≡ false
leads_elsewhere q o None ne = refl
leads_elsewhere q o (Some l) ne = ne_eqb l.to q (λ e. ne (sym e))

pub same_self : (d : Memory) (q : ℕ) → SameAt d d q
same_self d q = record { look = refl; key = refl; into = λ w. w; out = λ w. w }

pub repriced : (m k : Meaning) (d e : Memory) (n : ℕ) (x : Price) (o p : ℕ) → k ≡ priced m n x → p ≡ to_of (link_at m n) o → p < places m →
    Updated k d e p → UpToDate m d → UpToDate k e
repriced m k d e n x o p ek ep l t h = subst (λ z. UpToDate z e) (sym ek)
    (up_to_date (priced m n x) d e p (subst (λ z. Updated z d e p) ek t) l
    (λ q lq ne. right_kept m (priced m n x) d d q refl (price_reaches m d.standings n x q (leads_elsewhere q o (link_at m n) (λ z. ne (z ∙ sym ep)))) (λ s. refl)
    (same_self d q) (h.right q lq)) h.inside h.sorted)

-- what was not refused has a link, and the new meaning
pub not_refused : {A : Type 0} (o : Option Refusal) (a b : A) → None ≡ o → unless o a b ≡ b
not_refused o a b e = ap (λ r. unless r a b) (sym e)

pub leads_there : (k : Kind) (l : Option Link) (n : ℕ) (x : Price) (o q : ℕ) → None ≡ refusal_at k l n x → leads_into q l ≡ false → q ≡ to_of l o → ⊥
leads_there k None n x o q r f e = let z : ◌≡◌ {A = ℕ} 0 1 = cc in omega arith
leads_there k (Some l) n x o q r f e = eqb-false l.to q f (sym e)
