-- Runs of steps, and the repair.
use Rattle.std.specs.Prelude.{◌≡◌, ℕ, zero, suc, ◌+◌, ◌*◌, cond, List, [], ◌∷◌, ◌++◌, map, Some, None, Option, ◌==◌}
use Rattle.rows.specs.Rows.{Price}
use Rattle.chart.specs.Meaning.{Meaning, places}
use Rattle.lifelong.specs.Step.{Change, change_at, next, settled, step}

-- one step of a run: the place it takes, and what it does there
pub record Expansion : Type 0 where
  pub place : ℕ
  pub change : Change

-- the steps taken, the first one first, and the standings left
pub record Run : Type 0 where
  pub steps : List Expansion
  pub left : List Price

-- no step
abbrev pub stopped : List Price → Run
stopped gs = record { steps = []; left = gs }

-- a step, then a run
abbrev pub after : Expansion → Run → Run
after e r = record { steps = e ∷ r.steps; left = r.left }

-- a step at the place to be taken, then the run from there; no step where there is none
abbrev pub taking : Meaning → List Price → Option ℕ → (ℕ → Run) → Run
taking m gs None then = stopped gs
taking m gs (Some p) then = after (record { place = p; change = change_at m gs p }) (then p)

-- run: steps until settled, or until the budget of n steps is spent
unfoldable pub run : Meaning → ℕ → List Price → Run
run m zero gs = stopped gs
run m (suc n) gs = cond (settled m gs) (stopped gs) (taking m gs (next m gs) (λ p. run m n (step m gs p)))

-- repair (ComputeShortestPath): the run with two steps for each place
abbrev pub repair : Meaning → List Price → Run
repair m gs = run m (2 * places m) gs

-- the places that a run expands
abbrev pub expanded : Run → List ℕ
expanded r = map (λ e. e.place) r.steps

-- how often a place stands in a list
abbrev pub how_often : ℕ → List ℕ → ℕ
how_often x [] = 0
how_often x (y ∷ ys) = cond (y == x) 1 0 + how_often x ys

-- one run, then another from where it ends
abbrev pub then_run : Run → Run → Run
then_run r s = record { steps = r.steps ++ s.steps; left = s.left }

-- a run of a + b steps is a run of a, and then of b
abbrev pub RunsJoin : Type 0
RunsJoin = (m : Meaning) (a b : ℕ) (gs : List Price) →
    run m (a + b) gs ≡ then_run (run m a gs) (run m b (run m a gs).left)
