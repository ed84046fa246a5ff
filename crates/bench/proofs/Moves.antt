-- One move of a queue after another.
use Rattle.std.proofs.Common.{ℕ, ◌∙◌, subst, ⊎_elim, arith}
use Rattle.std.proofs.lemmas.Bool.{cases_eq}
use Rattle.bench.specs.declared.bench.Bench.{Bench}
use Rattle.bench.specs.Changes.{Dequeued, Enqueued, Reordered}
use Rattle.bench.specs.Contents.{SameLender, Waits}

module _ {P K : Type 0} (q m r : Bench P K) where
  pub lenders : SameLender q m → SameLender m r → SameLender q r
  lenders h k = (k.0 ∙ h.0, (k.1.0 ∙ h.1.0, k.1.1 ∙ h.1.1))

  pub reordered_again : Reordered q m → Reordered m r → Reordered q r
  reordered_again h k = record {
    lender = lenders h.lender k.lender;
    used = k.used ∙ h.used;
    kept = (k.kept.0 ∙ h.kept.0, k.kept.1 ∙ h.kept.1, k.kept.2 ∙ h.kept.2);
    same = λ p. (λ a. (k.same p).0 ((h.same p).0 a), λ a. (h.same p).1 ((k.same p).1 a));
    past = λ n w. k.past n (λ p a. w p ((h.same p).1 a)) ∙ h.past n w;
  }

  -- a place is queued, and then the order changes
  pub enqueued_then : (p : ℕ) (key : K) → Enqueued q m p key → Reordered m r → Enqueued q r p key
  enqueued_then p key h k = record {
    lender = lenders h.lender k.lender;
    holds = (k.same p).0 h.holds;
    others = λ x u. let o = h.others x u in (λ a. (k.same x).0 (o.0 a), λ a. o.1 ((k.same x).1 a));
    rekeyed = (k.kept.0 ∙ h.rekeyed.0, k.kept.1 ∙ h.rekeyed.1, k.kept.2 ∙ h.rekeyed.2);
    past = λ n l w. k.past n (λ x a. ⊎_elim (λ e. omega arith) (λ u. w x ((h.others x u).1 a)) (cases_eq x p)) ∙ h.past n l w;
  }

  -- a place is taken out, and then the order changes
  pub dequeued_then : (p : ℕ) → Dequeued q m p → Reordered m r → Dequeued q r p
  dequeued_then p h k = record {
    lender = lenders h.lender k.lender;
    gone = λ a. h.gone ((k.same p).1 a);
    others = λ x u. let o = h.others x u in (λ a. (k.same x).0 (o.0 a), λ a. o.1 ((k.same x).1 a));
    kept = (k.kept.0 ∙ h.kept.0, k.kept.1 ∙ h.kept.1, k.kept.2 ∙ h.kept.2);
    past = λ n w. k.past n (λ x a. ⊎_elim (λ e. absurd (h.gone (subst (Waits m) e a))) (λ u. w x ((h.others x u).1 a)) (cases_eq x p)) ∙ h.past n w;
  }
