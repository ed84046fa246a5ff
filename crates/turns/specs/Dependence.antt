-- What an answer depends on.
use Rattle.std.specs.Prelude.{◌≡◌, Bool, true, false}
use Rattle.chart.specs.Lawful.{Lawful}
use Rattle.lifelong.specs.Theorems.{Agree}
use Rattle.lpa_star.specs.Memory.{size}
use Rattle.lpa_star.specs.UpToDate.{UpToDate}
use Rattle.turns.specs.State.{State}
use Rattle.turns.specs.Turned.{Turned}
use Rattle.turns.specs.Turns.{Answer, Turn, begin, end_firm, end_loose, price, repair, reopen, trace}

-- the same planner over charts that mean the same; the benches have one number and one length, and of what they hold only the
-- standings of the places agree
pub record Alike (s t : State) : Type 0 where
  pub number : s.number ≡ t.number
  pub stage : s.stage ≡ t.stage
  pub chart : s.chart ≡ t.chart
  pub bench_number : s.bench.number ≡ t.bench.number
  pub bench_size : size s.bench ≡ size t.bench
  pub standings : Agree s.chart s.bench.standings t.bench.standings

-- only a repair asks that its bench be up to date
abbrev pub is_repair : Turn → Bool
is_repair begin = false
is_repair (price k n p) = false
is_repair (repair k) = true
is_repair (trace k long) = false
is_repair (reopen k) = false
is_repair (end_loose k) = false
is_repair (end_firm k) = false

-- the same turn has the same answer, a repair on benches that are up to date: what else a bench holds is never told
abbrev pub SameAnswer : Type 0
SameAnswer = (s t : State) → Lawful s.chart → Alike s t →
    (u : Turn) → (is_repair u ≡ true → UpToDate s.chart s.bench × UpToDate t.chart t.bench) →
    (a b : Answer) (s' t' : State) → Turned s u a s' → Turned t u b t' → a ≡ b
