-- The queue in the records: its first slots are used, and each names a place whose index names that slot.
use Rattle.std.specs.Prelude.{◌≡◌, ℕ, ◌<◌, List, length, ◌≢◌, slice_set}
use Rattle.bench.specs.declared.record.Record.{Record}
use Rattle.bench.specs.Records.{in_slot, index_of, keys, lookaheads, standings}

-- slot k is there, and names one of the records
abbrev pub Names : {P K : Type 0} → List (Record P K) → ℕ → Type 0
Names rs k = (k < length rs) × (k < 4096) × (in_slot rs k < length rs)

-- each used slot names one of the records
abbrev pub Named : {P K : Type 0} → List (Record P K) → ℕ → Type 0
Named rs used = (k : ℕ) → k < used → in_slot rs k < length rs

-- each used slot names a place that a chart may have
abbrev pub Low : {P K : Type 0} → List (Record P K) → ℕ → Type 0
Low rs used = (k : ℕ) → k < used → in_slot rs k < 4096

-- the index of the place in a used slot names that slot
abbrev pub Back : {P K : Type 0} → List (Record P K) → ℕ → Type 0
Back rs used = (k : ℕ) → k < used → index_of rs (in_slot rs k) ≡ k

-- place p is queued: its index names a used slot that names p
abbrev pub Queued : {P K : Type 0} → List (Record P K) → ℕ → ℕ → Type 0
Queued rs used p = (index_of rs p < used) × (in_slot rs (index_of rs p) ≡ p)

-- of m used slots before and n after: the same places are queued, but perhaps for p
abbrev pub Others : {P K : Type 0} → List (Record P K) → ℕ → List (Record P K) → ℕ → ℕ → Type 0
Others rs m ss n p = (q : ℕ) → (q ≢ p) → (Queued rs m q → Queued ss n q) × (Queued ss n q → Queued rs m q)

-- place p has another key, and every other key and all standings and lookaheads are as they were
abbrev pub Rekeyed : {P K : Type 0} → List (Record P K) → List (Record P K) → ℕ → K → Type 0
Rekeyed rs ss p key = (keys ss ≡ slice_set (keys rs) p key) × (standings ss ≡ standings rs) × (lookaheads ss ≡ lookaheads rs)
