-- What a bench holds, as a planner speaks of it. Free besides, within the records of the places in use: which slot a
-- queued place is in, the unused slots, and the indexes of places that are not queued.
use Rattle.std.specs.Prelude.{◌≡◌, ℕ, ◌<◌, Bool, ◌&&◌, List, length, drop, nat_lt}
use Rattle.rows.specs.Rows.{Price}
use Rattle.rows.specs.Keys.{Key}
use Rattle.bench.specs.declared.bench.Bench.{Bench}
use Rattle.bench.specs.declared.key.Key.{Key as PriceKey}
use Rattle.bench.specs.declared.record.Record.{Record}
use Rattle.bench.specs.Queue.{Others, Queued}
use Rattle.bench.specs.Prices.{LeastIn, SortedIn, keys_in, lookaheads_in, standings_in}

-- the number of records, and so of places that the bench has room for
abbrev pub room : {P K : Type 0} → Bench P K → ℕ
room b = length b.records.now

-- the same lent memory, laid for the same planner
abbrev pub SameLender : {P K : Type 0} → Bench P K → Bench P K → Type 0
SameLender b d = (d.records.ghost_name ≡ b.records.ghost_name) × ((d.number ≡ b.number) × (room d ≡ room b))

-- standing (published: g), of each place; v gives the price that a value stands for
abbrev pub standings : {P : Type 0} → (P → Price) → Bench P (PriceKey P) → List Price
standings v b = standings_in v b.records.now

-- lookahead (published: rhs), of each place
abbrev pub lookaheads : {P : Type 0} → (P → Price) → Bench P (PriceKey P) → List Price
lookaheads v b = lookaheads_in v b.records.now

-- the key that is kept of each place, queued or not
abbrev pub keys : {P : Type 0} → (P → Price) → Bench P (PriceKey P) → List Key
keys v b = keys_in v b.records.now

-- the records from place n on, whole: standing, lookahead, key, slot and index
abbrev pub past : {P K : Type 0} → ℕ → Bench P K → List (Record P K)
past n b = drop n b.records.now

-- place p is in the queue
abbrev pub Waits : {P K : Type 0} → Bench P K → ℕ → Type 0
Waits b p = Queued b.records.now b.used p

-- only places below n are queued
abbrev pub Below : {P K : Type 0} → ℕ → Bench P K → Type 0
Below n b = (q : ℕ) → Waits b q → q < n

-- may place p be queued? It is one of the records, and one that a chart may have.
abbrev pub can_wait : {P K : Type 0} → Bench P K → ℕ → Bool
can_wait b p = nat_lt p (room b) && nat_lt p 4096

-- the same places are queued
abbrev pub SameQueue : {P K : Type 0} → Bench P K → Bench P K → Type 0
SameQueue b d = (q : ℕ) → (Waits b q → Waits d q) × (Waits d q → Waits b q)

-- the same places are queued, but perhaps for p
abbrev pub SameBut : {P K : Type 0} → Bench P K → Bench P K → ℕ → Type 0
SameBut b d p = Others b.records.now b.used d.records.now d.used p

-- the queue is in heap order: each call keeps it, and in it the top is the least
abbrev pub Sorted : {P : Type 0} → (P → Price) → Bench P (PriceKey P) → Type 0
Sorted v b = SortedIn v b.records.now b.used

-- no queued place comes before place p
abbrev pub Least : {P : Type 0} → (P → Price) → Bench P (PriceKey P) → ℕ → Type 0
Least v b p = LeastIn v b.records.now b.used p
