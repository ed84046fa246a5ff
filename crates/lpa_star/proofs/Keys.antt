-- Uneven places and keys, by the standing and the lookahead that were read.
use Rattle.std.proofs.Common.{◌≡◌, ℕ, List, sym, refl, ap, ◌∙◌}
use Rattle.rows.specs.Rows.{Kind, Price, closed, open_at, smaller, sum}
use Rattle.rows.specs.Keys.{Key}
use Rattle.chart.specs.Meaning.{Meaning, estimate_at}
use Rattle.lifelong.specs.Standings.{differ, key, key_for, lookahead, standing_at, uneven}

sum_closed : (k : Kind) (s : Price) → sum k s closed ≡ closed
sum_closed k closed = refl
sum_closed k (open_at xs) = refl

-- a key whose whole is a sum of the price's kind, and one of a place that has no estimate
module _ (m : Meaning) (k : Kind) (p : ℕ) (w s e : Price) where
  pub key_summed : m.kind ≡ k → w ≡ sum k s e → e ≡ estimate_at m p → record { whole = w; own = s } ≡ key_for m p s
  key_summed ek ew ee = let x : w ≡ sum m.kind s (estimate_at m p) = ew ∙ (λ i. sum (sym ek i) s (ee i)) in λ i. record { whole = x i; own = s }

  pub key_shut : w ≡ closed → closed ≡ estimate_at m p → record { whole = w; own = s } ≡ key_for m p s
  key_shut ew ee = let x : w ≡ sum m.kind s (estimate_at m p) = ew ∙ sym (ap (sum m.kind s) (sym ee) ∙ sum_closed m.kind s) in λ i. record { whole = x i; own = s }

module _ (m : Meaning) (gs : List Price) (p : ℕ) (s a : Price) (es : s ≡ standing_at gs p) (ea : a ≡ lookahead m gs p) where
  pub uneven_by : differ s a ≡ uneven m gs p
  unfolding uneven
  uneven_by = λ i. differ (es i) (ea i)

  pub key_by : (x : Price) (k : Key) → x ≡ smaller s a → k ≡ key_for m p x → k ≡ key m gs p
  unfolding key
  key_by x k ex ek = ek ∙ ap (key_for m p) ex ∙ (λ i. key_for m p (smaller (es i) (ea i)))
