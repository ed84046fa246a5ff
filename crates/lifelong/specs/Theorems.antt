-- What holds of steps, runs and repairs.
use Rattle.std.specs.Prelude.{◌≡◌, ℕ, ◌*◌, ◌<◌, ◌≤◌, true, false, List, length, Some}
use Rattle.rows.specs.Rows.{Price, closed, less, zero_of}
use Rattle.rows.specs.Keys.{key_less}
use Rattle.chart.specs.Lawful.{Lawful}
use Rattle.chart.specs.Meaning.{Meaning, places}
use Rattle.chart.specs.Routes.{Among, Chain, Distinct, NoRoute, TrueDistance}
use Rattle.lifelong.specs.Standings.{key, lookahead, standing_at}
use Rattle.lifelong.specs.Step.{StepsAgree, next, settled, step}
use Rattle.lifelong.specs.Run.{expanded, how_often, repair, run}
use Rattle.lifelong.specs.Trace.{trace}
use Rattle.lifelong.specs.Bounds.{Always}

-- of any chart and any standings, what is computed is what the relations say
abbrev pub DefinitionsAgree : Type 0
DefinitionsAgree = (m : Meaning) (gs : List Price) → StepsAgree m gs

-- True distances: each place has one, and no more; zero at the start; closed exactly when no chain leads there.

abbrev pub SomeDistance : Type 0
SomeDistance = (m : Meaning) → Lawful m → (x : ℕ) → (p : Price) × TrueDistance m x p

abbrev pub OneDistance : Type 0
OneDistance = (m : Meaning) → Lawful m → (x : ℕ) (p q : Price) → TrueDistance m x p → TrueDistance m x q → p ≡ q

abbrev pub ZeroAtStart : Type 0
ZeroAtStart = (m : Meaning) → Lawful m → TrueDistance m m.start (zero_of m.kind)

abbrev pub ClosedWithoutChain : Type 0
ClosedWithoutChain = (m : Meaning) → Lawful m → (x : ℕ) (p : Price) → TrueDistance m x p →
    (p ≡ closed → (ps : List ℕ) (q : Price) → Chain m x ps q → ⊥) ×
    (((ps : List ℕ) (q : Price) → Chain m x ps q → ⊥) → p ≡ closed)

-- Keys: that of the next step is not below that of this one, nor is that of any later step.

abbrev pub NextKey : Type 0
NextKey = Always (λ m gs. (p q : ℕ) → next m gs ≡ Some p → next m (step m gs p) ≡ Some q →
    key_less (key m (step m gs p) q) (key m gs p) ≡ false)

abbrev pub LaterKeys : Type 0
LaterKeys = Always (λ m gs. (p : ℕ) → next m gs ≡ Some p →
    (n q : ℕ) → next m (run m n (step m gs p)).left ≡ Some q →
    key_less (key m (run m n (step m gs p)).left q) (key m gs p) ≡ false)

-- Runs: no place is lowered twice or raised twice, so none is expanded more than twice, two steps for each place
-- suffice, and a repair ends settled.

-- the same change at the same place stands only once among the steps
abbrev pub NeverTwice : Type 0
NeverTwice = Always (λ m gs. (n : ℕ) → Distinct (run m n gs).steps)

abbrev pub AtMostTwice : Type 0
AtMostTwice = Always (λ m gs. (n x : ℕ) → how_often x (expanded (run m n gs)) ≤ 2)

abbrev pub FewSteps : Type 0
FewSteps = Always (λ m gs. (n : ℕ) → length (run m n gs).steps ≤ 2 * places m)

abbrev pub EndsSettled : Type 0
EndsSettled = Always (λ m gs. settled m (repair m gs).left ≡ true)

-- Truth: a place that is lowered gets its true distance; so has the goal when settled, closed exactly when no route
-- stands.

abbrev pub LoweredTrue : Type 0
LoweredTrue = Always (λ m gs. (p : ℕ) → next m gs ≡ Some p → less (lookahead m gs p) (standing_at gs p) ≡ true →
    TrueDistance m p (standing_at (step m gs p) p))

abbrev pub SettledTrue : Type 0
SettledTrue = Always (λ m gs. settled m gs ≡ true → TrueDistance m m.goal (standing_at gs m.goal))

abbrev pub ClosedWithoutRoute : Type 0
ClosedWithoutRoute = Always (λ m gs. settled m gs ≡ true →
    (standing_at gs m.goal ≡ closed → NoRoute m) × (NoRoute m → standing_at gs m.goal ≡ closed))

-- a place whose standing is its true distance is not expanded, and keeps it
abbrev pub TrueKept : Type 0
TrueKept = Always (λ m gs. (n x : ℕ) → TrueDistance m x (standing_at gs x) →
    (Among x (expanded (run m n gs)) → ⊥) × TrueDistance m x (standing_at (run m n gs).left x))

-- What lies past the places is never read: where two lists of standings agree at the places, all answers are the same.

-- equal at every place
abbrev pub Agree : Meaning → List Price → List Price → Type 0
Agree m gs hs = (p : ℕ) → p < places m → standing_at gs p ≡ standing_at hs p

pub record SameAnswers (m : Meaning) (gs hs : List Price) : Type 0 where
  pub next_same : next m gs ≡ next m hs
  pub settled_same : settled m gs ≡ settled m hs
  pub run_same : (n : ℕ) → (run m n gs).steps ≡ (run m n hs).steps
  pub left_same : (n : ℕ) → Agree m (run m n gs).left (run m n hs).left
  pub trace_same : trace m gs ≡ trace m hs

abbrev pub PastUnread : Type 0
PastUnread = (m : Meaning) → Lawful m → (gs hs : List Price) → places m ≤ length gs → places m ≤ length hs →
    Agree m gs hs → SameAnswers m gs hs
