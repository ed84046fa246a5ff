-- What the records hold as prices, where v gives the price that a value stands for; the first slots, `used` many, are used.
use Rattle.std.specs.Prelude.{◌≡◌, ℕ, false, List, map, slice_index_or}
use Rattle.rows.specs.Rows.{Price, closed}
use Rattle.rows.specs.Keys.{Key as RowKey, before}
use Rattle.bench.specs.declared.key.Key.{Key}
use Rattle.bench.specs.declared.record.Record.{Record}
use Rattle.bench.specs.Heap.{Ordered}
use Rattle.bench.specs.Keys.{key_of}
use Rattle.bench.specs.Queue.{Queued}
use Rattle.bench.specs.Records.{in_slot}
use Rattle.bench.specs.Sorted.{ahead}

-- standing (published: g), of each place
abbrev pub standings_in : {P : Type 0} → (P → Price) → List (Record P (Key P)) → List Price
standings_in v rs = map (λ r. v r.standing) rs

-- lookahead (published: rhs), of each place
abbrev pub lookaheads_in : {P : Type 0} → (P → Price) → List (Record P (Key P)) → List Price
lookaheads_in v rs = map (λ r. v r.lookahead) rs

-- the key that is kept of each place, queued or not
abbrev pub keys_in : {P : Type 0} → (P → Price) → List (Record P (Key P)) → List RowKey
keys_in v rs = map (λ r. key_of v r.key) rs

-- the key of place p; past the memory, where no place is queued, closed prices stand for one
abbrev pub key_at : {P : Type 0} → (P → Price) → List (Record P (Key P)) → ℕ → RowKey
key_at v rs p = slice_index_or (keys_in v rs) p (record { whole = closed; own = closed })

-- the used slots are in heap order: no place comes before the one in the parent's slot
abbrev pub SortedIn : {P : Type 0} → (P → Price) → List (Record P (Key P)) → ℕ → Type 0
SortedIn v rs used = Ordered (ahead before (keys_in v rs)) (in_slot rs) used

-- no queued place comes before place p
abbrev pub LeastIn : {P : Type 0} → (P → Price) → List (Record P (Key P)) → ℕ → ℕ → Type 0
LeastIn v rs used p = (q : ℕ) → Queued rs used q → before (key_at v rs q) q (key_at v rs p) p ≡ false
