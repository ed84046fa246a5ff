-- Binary heaps over any order: f is what stands in each slot, and lt x y says that x comes before y.
use Rattle.std.specs.Prelude.{◌≡◌, ℕ, ◌+◌, ◌*◌, ◌<◌, ◌≤◌, Bool, false, ◌≢◌}

-- y does not come before x
abbrev pub Le : (ℕ → ℕ → Bool) → ℕ → ℕ → Type 0
Le lt x y = lt y x ≡ false

-- slot k is a child of slot i
abbrev pub Child : ℕ → ℕ → Type 0
Child i k = (i * 2 + 1 ≤ k) × (k ≤ i * 2 + 2)

-- heap order of the first n slots: no child comes before its parent
abbrev pub Ordered : (ℕ → ℕ → Bool) → (ℕ → ℕ) → ℕ → Type 0
Ordered lt f n = (i k : ℕ) → Child i k → k < n → Le lt (f i) (f k)

-- the first n slots would be in heap order, were what stands in slot j left out
pub record Gap (lt : ℕ → ℕ → Bool) (f : ℕ → ℕ) (j n : ℕ) : Type 0 where
  pub apart : (i k : ℕ) → Child i k → k < n → (i ≢ j) → (k ≢ j) → Le lt (f i) (f k)
  pub across : (i k : ℕ) → Child i j → Child j k → k < n → Le lt (f i) (f k)

-- what stands in slot j does not come before its parent
abbrev pub Under : (ℕ → ℕ → Bool) → (ℕ → ℕ) → ℕ → Type 0
Under lt f j = (i : ℕ) → Child i j → Le lt (f i) (f j)

-- no child of slot j comes before x
abbrev pub Over : (ℕ → ℕ → Bool) → (ℕ → ℕ) → ℕ → ℕ → ℕ → Type 0
Over lt f x j n = (k : ℕ) → Child j k → k < n → Le lt x (f k)
