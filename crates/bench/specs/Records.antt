-- The records by their columns.
use Rattle.std.specs.Prelude.{◌≡◌, ℕ, List, map, slice_index, slice_set}
use Rattle.bench.specs.declared.record.Record.{Record}

-- the slots of the queue, each with the number of a place
abbrev pub slots : {P K : Type 0} → List (Record P K) → List ℕ
slots rs = map (λ r. r.slot) rs

-- the indexes of the places, each the number of a slot
abbrev pub indexes : {P K : Type 0} → List (Record P K) → List ℕ
indexes rs = map (λ r. r.index) rs

-- the keys of the places
abbrev pub keys : {P K : Type 0} → List (Record P K) → List K
keys rs = map (λ r. r.key) rs

-- the standings of the places
abbrev pub standings : {P K : Type 0} → List (Record P K) → List P
standings rs = map (λ r. r.standing) rs

-- the lookaheads of the places
abbrev pub lookaheads : {P K : Type 0} → List (Record P K) → List P
lookaheads rs = map (λ r. r.lookahead) rs

-- the place that slot k names
abbrev pub in_slot : {P K : Type 0} → List (Record P K) → ℕ → ℕ
in_slot rs k = slice_index (slots rs) k

-- the slot that the index of place p names
abbrev pub index_of : {P K : Type 0} → List (Record P K) → ℕ → ℕ
index_of rs p = slice_index (indexes rs) p

-- every standing, lookahead and key is as it was; slots and indexes are free
abbrev pub Kept : {P K : Type 0} → List (Record P K) → List (Record P K) → Type 0
Kept rs ss = (keys ss ≡ keys rs) × (standings ss ≡ standings rs) × (lookaheads ss ≡ lookaheads rs)

-- the places in slots a and b are exchanged, with their indexes, and all else is as it was
pub record Exchanged {P K : Type 0} (rs ss : List (Record P K)) (a b : ℕ) : Type 0 where
  pub slots_are : slots ss ≡ slice_set (slice_set (slots rs) a (in_slot rs b)) b (in_slot rs a)
  pub indexes_are : indexes ss ≡ slice_set (slice_set (indexes rs) (in_slot rs b) a) (in_slot rs a) b
  pub kept : Kept rs ss
