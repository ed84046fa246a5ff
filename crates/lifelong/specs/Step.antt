-- The step (expansion) and when to stop: as they are computed, and as relations.
use Rattle.std.specs.Prelude.{◌≡◌, ℕ, zero, suc, ◌<◌, ◌≤◌, Bool, true, false, cond, not, ◌&&◌, List, length, Some, None, Option, ◌≢◌, slice_set}
use Rattle.rows.specs.Rows.{Price, closed, less}
use Rattle.rows.specs.Keys.{before, key_less}
use Rattle.chart.specs.Meaning.{Meaning, places}
use Rattle.lifelong.specs.Standings.{key, lookahead, standing_at, uneven}

-- the one so far unless place p has a smaller key
abbrev pub better : Meaning → List Price → Option ℕ → ℕ → Option ℕ
better m gs None p = Some p
better m gs (Some b) p = cond (key_less (key m gs p) (key m gs b)) (Some p) (Some b)

-- of the places below n, the uneven one of smallest key, of equals the lowest number
unfoldable pub next_below : Meaning → List Price → ℕ → Option ℕ
next_below m gs zero = None
next_below m gs (suc n) = cond (uneven m gs n) (better m gs (next_below m gs n) n) (next_below m gs n)

-- the place that a step takes: the top of the priority queue
abbrev pub next : Meaning → List Price → Option ℕ
next m gs = next_below m gs (places m)

-- a standing above its lookahead is lowered to it (locally overconsistent);
-- one below its lookahead is raised to closed (locally underconsistent)
pub data Change : Type 0 where
  lowered : Change
  raised : Change

-- which of the two an uneven standing calls for
abbrev pub change_of : Price → Price → Change
change_of standing ahead = cond (less ahead standing) lowered raised

-- the standing that is left
abbrev pub changed : Price → Price → Price
changed standing ahead = cond (less ahead standing) ahead closed

-- what a step does at a place
abbrev pub change_at : Meaning → List Price → ℕ → Change
change_at m gs p = change_of (standing_at gs p) (lookahead m gs p)

-- step: the expansion of a place. Its standing changes, and no other
unfoldable pub step : Meaning → List Price → ℕ → List Price
step m gs p = slice_set gs p (changed (standing_at gs p) (lookahead m gs p))

-- the key of a place is below the goal's
abbrev pub below_goal : Meaning → List Price → Option ℕ → Bool
below_goal m gs None = false
below_goal m gs (Some p) = key_less (key m gs p) (key m gs m.goal)

-- settled: the loop of ComputeShortestPath ends. The goal is even, and the place that a step would take has no key
-- below the goal's
unfoldable pub settled : Meaning → List Price → Bool
settled m gs = not (uneven m gs m.goal) && not (below_goal m gs (next m gs))

-- The relations.

-- even: locally consistent
abbrev pub Even : Meaning → List Price → ℕ → Type 0
Even m gs p = standing_at gs p ≡ lookahead m gs p

-- p is uneven, and no other uneven place comes before it
pub record Taken (m : Meaning) (gs : List Price) (p : ℕ) : Type 0 where
  pub inside : p < places m
  pub uneven : Even m gs p → ⊥
  pub first : (q : ℕ) → q < places m → (Even m gs q → ⊥) → before (key m gs q) q (key m gs p) p ≡ false

-- the change that is made, and the standing that it leaves
abbrev pub Changed : Change → Price → Price → Price → Type 0
Changed lowered standing ahead new = (less ahead standing ≡ true) × (new ≡ ahead)
Changed raised standing ahead new = (less standing ahead ≡ true) × (new ≡ closed)

-- a step takes p and makes the change c: it leads from the standings gs to hs
pub record Stepped (m : Meaning) (gs : List Price) (p : ℕ) (c : Change) (hs : List Price) : Type 0 where
  pub taken : Taken m gs p
  pub here : Changed c (standing_at gs p) (lookahead m gs p) (standing_at hs p)
  pub elsewhere : (q : ℕ) → (q ≢ p) → standing_at hs q ≡ standing_at gs q
  pub long : length hs ≡ length gs

-- the goal is even, and no uneven place has a key below the goal's
pub record Settled (m : Meaning) (gs : List Price) : Type 0 where
  pub even : Even m gs m.goal
  pub first : (q : ℕ) → q < places m → (Even m gs q → ⊥) → key_less (key m gs q) (key m gs m.goal) ≡ false

-- what is computed is what the relations say
pub record StepsAgree (m : Meaning) (gs : List Price) : Type 0 where
  pub uneven_computed : (p : ℕ) → uneven m gs p ≡ true → Even m gs p → ⊥
  pub even_computed : (p : ℕ) → uneven m gs p ≡ false → Even m gs p
  pub next_is_taken : (p : ℕ) → next m gs ≡ Some p → Taken m gs p
  pub taken_is_next : (p : ℕ) → Taken m gs p → next m gs ≡ Some p
  pub none_is_even : next m gs ≡ None → (p : ℕ) → p < places m → Even m gs p
  pub step_computed : (p : ℕ) → places m ≤ length gs → next m gs ≡ Some p → Stepped m gs p (change_at m gs p) (step m gs p)
  pub step_unique : (p : ℕ) (c : Change) (hs : List Price) → places m ≤ length gs → Stepped m gs p c hs →
      (next m gs ≡ Some p) × (c ≡ change_at m gs p) × (hs ≡ step m gs p)
  pub settled_computed : settled m gs ≡ true → Settled m gs
  pub computed_settled : Settled m gs → settled m gs ≡ true
