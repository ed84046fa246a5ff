-- What a bench holds, as prices and numbers, whatever type its prices have.
use Rattle.std.specs.Prelude.{◌≡◌, ℕ, ◌<◌, List, map, length, drop, slice_index, slice_index_or}
use Rattle.rows.specs.Rows.{Price, closed}
use Rattle.rows.specs.Keys.{Key, before}
use Rattle.bench.specs.declared.bench.Bench.{Bench}
use Rattle.bench.specs.declared.key.Key.{Key as PriceKey}
use Rattle.bench.specs.Contents.{keys as kept_keys, lookaheads as kept_lookaheads, standings as kept_standings}
use Rattle.bench.specs.Heap.{Ordered}
use Rattle.bench.specs.Sorted.{ahead}

-- a standing (published: g), a lookahead (rhs), a key, a slot and an index for each record; the first slots, `used` many,
-- are the queue
pub record Memory : Type 0 where
  pub number : ℕ
  pub standings : List Price
  pub lookaheads : List Price
  pub keys : List Key
  pub slots : List ℕ
  pub indexes : List ℕ
  pub used : ℕ

-- that of a bench, where v gives the price that a value stands for
abbrev pub memory : {P : Type 0} → (P → Price) → Bench P (PriceKey P) → Memory
memory v b = record {
  number = b.number;
  standings = kept_standings v b;
  lookaheads = kept_lookaheads v b;
  keys = kept_keys v b;
  slots = map (λ r. r.slot) b.records.now;
  indexes = map (λ r. r.index) b.records.now;
  used = b.used;
}

-- how many records there are
abbrev pub size : Memory → ℕ
size d = length d.standings

-- the key of place p; past the memory, where no place is queued, closed prices stand for one
abbrev pub key_kept : List Key → ℕ → Key
key_kept ks p = slice_index_or ks p (record { whole = closed; own = closed })

-- place p is in the queue: its index names a used slot, and that slot names p
abbrev pub Waiting : Memory → ℕ → Type 0
Waiting d p = (slice_index d.indexes p < d.used) × (slice_index d.slots (slice_index d.indexes p) ≡ p)

-- each used slot names a place whose index names that slot: no place is queued twice
abbrev pub EachOnce : Memory → Type 0
EachOnce d = (k : ℕ) → k < d.used → slice_index d.indexes (slice_index d.slots k) ≡ k

-- the queue is in heap order: no place comes before the one in its parent's slot
abbrev pub InHeapOrder : Memory → Type 0
InHeapOrder d = Ordered (ahead before d.keys) (λ k. slice_index d.slots k) d.used

-- the records from place n on are as they were, slots and indexes too
pub record SamePast (n : ℕ) (d e : Memory) : Type 0 where
  pub standings : drop n e.standings ≡ drop n d.standings
  pub lookaheads : drop n e.lookaheads ≡ drop n d.lookaheads
  pub keys : drop n e.keys ≡ drop n d.keys
  pub slots : drop n e.slots ≡ drop n d.slots
  pub indexes : drop n e.indexes ≡ drop n d.indexes
