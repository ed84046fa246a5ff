-- A bench that is up to date with a chart.
use Rattle.std.specs.Prelude.{◌≡◌, ℕ, ◌<◌, ◌≤◌, true, false, List, Some, None, Option, ◌≢◌, slice_index_or}
use Rattle.rows.specs.Rows.{Price, closed}
use Rattle.rows.specs.Keys.{Key}
use Rattle.chart.specs.Meaning.{Link, Meaning, link_at, places}
use Rattle.chart.specs.Routes.{joins}
use Rattle.lifelong.specs.Standings.{key, lookahead, uneven}
use Rattle.bench.specs.Contents.{room}
use Rattle.bench.specs.declared.bench.Bench.{Bench}
use Rattle.bench.specs.declared.key.Key.{Key as PriceKey}
use Rattle.lpa_star.specs.Memory.{InHeapOrder, Memory, Waiting, key_kept, memory}

-- what is kept of place p is right: its lookahead is the defined one, and it is queued, under its key, where it is uneven
-- and only there. The key that is kept of a place that is not queued is never read, and free.
pub record Right (m : Meaning) (gs ls : List Price) (ks : List Key) (Q : ℕ → Type 0) (p : ℕ) : Type 0 where
  pub look : slice_index_or ls p closed ≡ lookahead m gs p
  pub queued : uneven m gs p ≡ true → Q p
  pub even : uneven m gs p ≡ false → Q p → ⊥
  pub keyed : Q p → key_kept ks p ≡ key m gs p

abbrev pub RightAt : Meaning → Memory → ℕ → Type 0
RightAt m d p = Right m d.standings d.lookaheads d.keys (Waiting d) p

-- what is kept of place p, its standing apart, is as it was
pub record Same (ls ms : List Price) (ks js : List Key) (Q R : ℕ → Type 0) (p : ℕ) : Type 0 where
  pub look : slice_index_or ms p closed ≡ slice_index_or ls p closed
  pub key : key_kept js p ≡ key_kept ks p
  pub into : Q p → R p
  pub out : R p → Q p

abbrev pub SameAt : Memory → Memory → ℕ → Type 0
SameAt d e p = Same d.lookaheads e.lookaheads d.keys e.keys (Waiting d) (Waiting e) p

-- up to date: what is kept of each place of the chart is right, no other place is queued, and the queue is in heap order
pub record UpToDate (m : Meaning) (d : Memory) : Type 0 where
  pub right : (p : ℕ) → p < places m → RightAt m d p
  pub inside : (p : ℕ) → Waiting d p → p < places m
  pub sorted : InHeapOrder d

-- where there is a record for each place, and the bench is up to date
abbrev pub WhereCurrent : {P : Type 0} → (P → Price) → Meaning → Bench P (PriceKey P) → Type 0 → Type 0
WhereCurrent v m b X = places m ≤ room b → UpToDate m (memory v b) → X

-- up to date but for place u, and for the places to which a link leads from u, of the links from number k on
pub record UpToDateBut (m : Meaning) (u k : ℕ) (d : Memory) : Type 0 where
  pub right : (q : ℕ) → q < places m → (q ≢ u) → ((j : ℕ) → k ≤ j → joins u q (link_at m j) ≡ false) → RightAt m d q
  pub inside : (p : ℕ) → Waiting d p → p < places m
  pub sorted : InHeapOrder d

-- the place that a link leads to, or another where there is no link
abbrev pub to_of : Option Link → ℕ → ℕ
to_of None other = other
to_of (Some l) other = l.to
