-- What keeps every sum of a repair below the ceiling.
use Rattle.std.specs.Prelude.{◌≡◌, ℕ, ◌<◌, ◌≤◌, true, List, length, Some}
use Rattle.rows.specs.Rows.{Price, closed, is_open, smaller, sum}
use Rattle.chart.specs.Lawful.{Lawful}
use Rattle.chart.specs.Limits.{Within}
use Rattle.chart.specs.Meaning.{Link, Meaning, link_at, places, priced}
use Rattle.lifelong.specs.Standings.{key, lookahead, standing_at}
use Rattle.lifelong.specs.Step.{next, step}
use Rattle.lifelong.specs.Run.{run}

-- there is a standing for each place, and each open one is at most 4,095 times the largest at each position
pub record Bounds (m : Meaning) (gs : List Price) : Type 0 where
  pub long : places m ≤ length gs
  pub low : (p : ℕ) → p < places m → Within m.kind 4095 (standing_at gs p)

-- of every lawful chart of every kind, and all standings within the bounds
abbrev pub Always : (Meaning → List Price → Type 0) → Type 0
Always P = (m : Meaning) → Lawful m → (gs : List Price) → Bounds m gs → P m gs

-- The bounds hold when all standings are closed, whatever the price of a link, and after every step and run.

abbrev pub ClosedWithin : Type 0
ClosedWithin = (m : Meaning) (gs : List Price) → places m ≤ length gs →
    ((p : ℕ) → p < places m → standing_at gs p ≡ closed) → Bounds m gs

abbrev pub PricedWithin : Type 0
PricedWithin = (m : Meaning) (gs : List Price) (n : ℕ) (p : Price) → Bounds m gs → Bounds (priced m n p) gs

abbrev pub StepWithin : Type 0
StepWithin = Always (λ m gs. (p : ℕ) → next m gs ≡ Some p → Bounds m (step m gs p))

abbrev pub RunWithin : Type 0
RunWithin = Always (λ m gs. (n : ℕ) → Bounds m (run m n gs).left)

-- Under them no sum reaches the ceiling: that of a standing and a link's price, or of a key.

abbrev pub SumsOpen : Type 0
SumsOpen = Always (λ m gs. (n : ℕ) (l : Link) → link_at m n ≡ Some l →
    is_open (standing_at gs l.from) ≡ true → is_open l.price ≡ true →
    is_open (sum m.kind (standing_at gs l.from) l.price) ≡ true)

abbrev pub KeysOpen : Type 0
KeysOpen = Always (λ m gs. (p : ℕ) → p < places m →
    is_open (smaller (standing_at gs p) (lookahead m gs p)) ≡ true → is_open (key m gs p).whole ≡ true)
