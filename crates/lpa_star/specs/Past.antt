-- The records past the places of a chart.
use Rattle.std.specs.Prelude.{◌≡◌, ℕ}
use Rattle.bench.specs.declared.bench.Bench.{Bench}
use Rattle.bench.specs.Contents.{Below, past}

-- where only places below n are queued, the records from n on stay whole, and no other places are queued then
abbrev pub KeepsPast : {P K : Type 0} → ℕ → Bench P K → Bench P K → Type 0
KeepsPast n b d = Below n b → (past n d ≡ past n b) × Below n d
