-- One place less: it is exchanged into the last used slot, and that is left out.
use Rattle.std.proofs.Common.{◌≡◌, ℕ, ◌-◌, ◌<◌, drop, sym, ap, ◌∙◌, subst, arith}
use Rattle.std.proofs.lemmas.List.Edits.{Swapped}
use Rattle.std.specs.Cmp.{IsTotalOrder}
use Rattle.std.specs.declared.cmp.Ordering.{Ordering}
use Rattle.bench.specs.declared.bench.Bench.{Bench}
use Rattle.bench.specs.Changes.{Dequeued, Heaped, HeapedBut, Reordered}
use Rattle.bench.specs.Contents.{SameLender, Waits}
use Rattle.bench.specs.Order.{before_by}
use Rattle.bench.specs.Queue.{Queued}
use Rattle.bench.specs.Records.{Exchanged, Kept, in_slot, index_of, keys}
use Rattle.bench.specs.Heap.{Gap}
use Rattle.bench.specs.Sorted.{GapAt}
use Rattle.bench.proofs.Heaps as heaps
use Rattle.bench.proofs.Links.{linked, swapped}
use Rattle.bench.proofs.Moves.{lenders}
use Rattle.bench.proofs.Sifts.{lt, order}

-- place p stands in slot k, of q; m is q after the exchange, and x has one slot less
module _ {P K : Type 0} (q m x : Bench P K) (h : Reordered q m) (k p : ℕ) (is : k ≡ index_of q.records.now p) (w : Waits q p) (e : Exchanged q.records.now m.records.now k (q.used - 1)) (lender : SameLender m x) (er : x.records.now ≡ m.records.now) (u : x.used ≡ m.used - 1) where
  s : Swapped (in_slot q.records.now) (in_slot m.records.now) k (q.used - 1)
  s = let l = w.0 in swapped q.records.now m.records.now k (q.used - 1) e q.used (linked q) (omega arith) (omega arith)

  last_is : in_slot m.records.now (q.used - 1) ≡ p
  last_is = s.1 ∙ ap (in_slot q.records.now) is ∙ w.1

  index_is : index_of m.records.now p ≡ q.used - 1
  index_is = let v = h.used in let l = w.0 in ap (index_of m.records.now) (sym last_is) ∙ m.back (q.used - 1) (omega arith)

  less : (y : ℕ) → Waits x y → Queued m.records.now (q.used - 1) y
  less y a = let v = h.used in let b = subst (λ rs. Queued rs x.used y) er a in let l = b.0 in (omega arith, b.1)

  more : (y : ℕ) → Queued m.records.now (q.used - 1) y → Waits x y
  more y a = let v = h.used in let l = a.0 in subst (λ rs. Queued rs x.used y) (sym er) (omega arith, a.1)

  pub left_out : Dequeued q x p
  left_out = record {
    lender = lenders q m x h.lender lender;
    gone = λ a. let i = index_is in let b = less p a in let l = b.0 in omega arith;
    others = λ y ne. (
      λ a. let b = (h.same y).0 a in
          let v : index_of m.records.now y ≡ q.used - 1 → ⊥ = λ d. ne (sym b.1 ∙ ap (in_slot m.records.now) d ∙ last_is) in
          let l = b.0 in
          more y (omega arith, b.1),
      λ a. let b = less y a in let l = b.0 in (h.same y).1 (omega arith, b.1),
    );
    kept = subst (Kept q.records.now) (sym er) h.kept;
    past = λ n b. ap (drop n) er ∙ h.past n b;
  }

  pub left_gap : (cmp : K → K → Ordering) → IsTotalOrder cmp → k < q.used - 1 → Heaped cmp q → HeapedBut cmp x k
  left_gap cmp o l heap =
      let v = h.used in
      let n : q.used - 1 ≡ x.used = omega arith in
      subst (λ rs. GapAt (before_by cmp) rs k x.used) (sym er) (subst (λ i. GapAt (before_by cmp) m.records.now k i) n (subst (λ ks. Gap (lt cmp ks) (in_slot m.records.now) k (q.used - 1)) (sym h.kept.0)
      (heaps.leaves (lt cmp (keys q.records.now)) (order cmp o (keys q.records.now)) (in_slot q.records.now) (in_slot m.records.now) k (q.used - 1) l s (λ i j a b. heap i j a (omega arith)))))
