-- A bench whose standings are all closed, and the start put right.
use Rattle.std.proofs.Common.{◌≡◌, ℕ, zero, suc, ◌+◌, ◌<◌, List, [], ◌∷◌, get_or, set, sym, refl, ap, ◌∙◌, subst, add-one, arith}
use Rattle.std.proofs.lemmas.Bool.{both_ways}
use Rattle.rows.specs.Rows.{Price, closed}
use Rattle.chart.specs.Lawful.{Lawful}
use Rattle.chart.specs.Meaning.{Meaning, places}
use Rattle.lifelong.specs.Standings.{lookahead, standing_at, uneven}
use Rattle.lifelong.proofs.Agreement.{is_even}
use Rattle.lifelong.proofs.Updates.{closed_ahead}
use Rattle.lpa_star.specs.Closing.{closed_first}
use Rattle.lpa_star.specs.Memory.{InHeapOrder, Memory, Waiting}
use Rattle.lpa_star.specs.UpToDate.{UpToDate}
use Rattle.lpa_star.proofs.Right.{Updated, up_to_date}

pub closed_none : (gs : List Price) → gs ≡ closed_first 0 gs
unfolding closed_first
closed_none gs = refl

more : (n : ℕ) (gs : List Price) → set (closed_first n gs) n closed ≡ closed_first (suc n) gs
unfolding closed_first
more zero [] = refl
more zero (g ∷ gs) = refl
more (suc n) [] = refl
more (suc n) (g ∷ gs) = ap (λ xs. closed ∷ xs) (more n gs)

pub closed_more : (n : ℕ) (gs : List Price) → set (closed_first n gs) n closed ≡ closed_first (n + 1) gs
closed_more n gs = more n gs ∙ ap (λ k. closed_first k gs) (sym (add-one n))

closed_at : (n p : ℕ) (gs : List Price) → p < n → get_or (closed_first n gs) p closed ≡ closed
unfolding closed_first
closed_at zero p gs l = absurd (omega arith)
closed_at (suc n) p [] l = refl
closed_at (suc n) zero (g ∷ gs) l = refl
closed_at (suc n) (suc p) (g ∷ gs) l = closed_at n p gs (omega arith)

pub begun : (m : Meaning) (d e : Memory) (gs ls : List Price) (p : ℕ) → Lawful m → d.standings ≡ closed_first (places m) gs → d.lookaheads ≡ closed_first (places m) ls →
    ((q : ℕ) → Waiting d q → ⊥) → InHeapOrder d → p ≡ m.start → Updated m d e p → UpToDate m e
begun m d e gs ls p law es el w o ep t =
    let shut : (q : ℕ) → q < places m → standing_at d.standings q ≡ closed = λ q l. ap (λ xs. get_or xs q closed) es ∙ closed_at (places m) q gs l in
    let look : (q : ℕ) → (q ≡ p → ⊥) → lookahead m d.standings q ≡ closed = λ q ne. closed_ahead m law d.standings shut q (λ z. ne (z ∙ sym ep)) in
    up_to_date m d e p t (subst (λ q. q < places m) (sym ep) law.start_in)
    (λ q l ne. record {
      look = ap (λ xs. get_or xs q closed) el ∙ closed_at (places m) q ls l ∙ sym (look q ne);
      queued = λ u. absurd (both_ways (uneven m d.standings q) (is_even m d.standings q (shut q l ∙ sym (look q ne))) u);
      even = λ f z. w q z;
      keyed = λ z. absurd (w q z);
    })
    (λ q z. absurd (w q z)) o
