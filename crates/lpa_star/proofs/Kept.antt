-- Changes that keep the records past the places, one after the other.
use Rattle.std.proofs.Common.{◌≡◌, ℕ, ◌<◌, refl, ◌∙◌, ⊎_elim, arith}
use Rattle.std.proofs.lemmas.Bool.{cases_eq}
use Rattle.bench.specs.declared.bench.Bench.{Bench}
use Rattle.bench.specs.Contents.{Below, SameBut, SameQueue, past}
use Rattle.lpa_star.specs.Past.{KeepsPast}

module _ {P K : Type 0} (n : ℕ) where
  pub keeps_none : (b : Bench P K) → KeepsPast n b b
  keeps_none b h = (refl, h)

  pub keeps_then : (b d f : Bench P K) → KeepsPast n b d → KeepsPast n d f → KeepsPast n b f
  keeps_then b d f k j h = let x = k h in let y = j x.1 in (y.0 ∙ x.0, y.1)

  -- a write to a record below n that leaves the queue alone
  pub keeps_write : (b d : Bench P K) → past n d ≡ past n b → SameQueue b d → KeepsPast n b d
  keeps_write b d e q h = (e, λ p w. h p ((q p).1 w))

  -- a change of the queue at place p below n
  pub keeps_queue : (b d : Bench P K) (p : ℕ) → p < n → (Below n b → past n d ≡ past n b) → SameBut b d p → KeepsPast n b d
  keeps_queue b d p l e q h = (e h, λ r w. ⊎_elim (λ (same : r ≡ p). omega arith) (λ (other : r ≡ p → ⊥). h r ((q r other).1 w)) (cases_eq r p))
