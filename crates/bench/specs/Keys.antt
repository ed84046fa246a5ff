-- The keys that pairs of prices stand for.
use Rattle.rows.specs.Rows.{Price}
use Rattle.rows.specs.Keys.{Key as RowKey}
use Rattle.bench.specs.declared.key.Key.{Key}

-- the key that a pair of prices stands for, where v gives the price that a value stands for
abbrev pub key_of : {P : Type 0} → (P → Price) → Key P → RowKey
key_of v k = record { whole = v k.whole; own = v k.own }
