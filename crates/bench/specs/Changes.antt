-- What a method does to the queue of a bench, for any type of keys: q before, and r after.
use Rattle.std.specs.Prelude.{◌≡◌, ℕ, ◌<◌}
use Rattle.std.specs.declared.cmp.Ordering.{Ordering}
use Rattle.bench.specs.declared.bench.Bench.{Bench}
use Rattle.bench.specs.Contents.{Below, SameBut, SameLender, SameQueue, Waits, past as records_past}
use Rattle.bench.specs.Order.{before_by}
use Rattle.bench.specs.Queue.{Rekeyed}
use Rattle.bench.specs.Records.{Kept}
use Rattle.bench.specs.Sorted.{GapAt, InOrder}

-- the used slots are in heap order, by the keys and then by the numbers of places
abbrev pub Heaped : {P K : Type 0} → (K → K → Ordering) → Bench P K → Type 0
Heaped cmp q = InOrder (before_by cmp) q.records.now q.used

-- they would be, were what stands in slot j left out
abbrev pub HeapedBut : {P K : Type 0} → (K → K → Ordering) → Bench P K → ℕ → Type 0
HeapedBut cmp q j = GapAt (before_by cmp) q.records.now j q.used

-- the same places are queued, and all is as it was but for their order
pub record Reordered {P K : Type 0} (q r : Bench P K) : Type 0 where
  pub lender : SameLender q r
  pub used : r.used ≡ q.used
  pub kept : Kept q.records.now r.records.now
  pub same : SameQueue q r
  pub past : (m : ℕ) → Below m q → records_past m r ≡ records_past m q

-- place p is queued under this key, and all else is as it was
pub record Enqueued {P K : Type 0} (q r : Bench P K) (p : ℕ) (key : K) : Type 0 where
  pub lender : SameLender q r
  pub holds : Waits r p
  pub others : SameBut q r p
  pub rekeyed : Rekeyed q.records.now r.records.now p key
  pub past : (m : ℕ) → p < m → Below m q → records_past m r ≡ records_past m q

-- place p is queued no more, and all else is as it was
pub record Dequeued {P K : Type 0} (q r : Bench P K) (p : ℕ) : Type 0 where
  pub lender : SameLender q r
  pub gone : Waits r p → ⊥
  pub others : SameBut q r p
  pub kept : Kept q.records.now r.records.now
  pub past : (m : ℕ) → Below m q → records_past m r ≡ records_past m q
