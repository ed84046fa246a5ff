-- What stays past the queued places through an exchange.
use Rattle.std.proofs.Common.{ℕ, ◌<◌, List, arith}
use Rattle.bench.specs.declared.record.Record.{Record}
use Rattle.bench.specs.Records.{Exchanged}
use Rattle.bench.specs.Queue.{Queued}
use Rattle.bench.proofs.Links.{Linked, slots_below}
use Rattle.bench.proofs.Past.{SamePast, swap_past}
use Rattle.bench.proofs.Pigeons.{used_at_most}

module _ {P K : Type 0} (rs ss : List (Record P K)) where
  pub swap_stays : (a b : ℕ) → Exchanged rs ss a b → (n : ℕ) → Linked rs n → a < n → b < n →
      (m : ℕ) → ((q : ℕ) → Queued rs n q → q < m) → SamePast rs ss m
  swap_stays a b x n h la lb m w =
      let c = slots_below rs n m h w in
      let u = used_at_most rs n m h c in
      swap_past rs ss m a b x (omega arith) (omega arith) (c a la) (c b lb)
