-- Two charts that differ in one price, and the planners over them that tell them apart.
use Rattle.std.specs.Prelude.{◌≡◌, ℕ, List, [], ◌∷◌}
use Rattle.rows.specs.Rows.{Price, closed}
use Rattle.chart.specs.Meaning.{Meaning, priced}
use Rattle.lifelong.specs.Charts.{ms, three}
use Rattle.lpa_star.specs.Memory.{Memory}
use Rattle.turns.specs.History.{Reachable}
use Rattle.turns.specs.State.{State, firm, idle, loose}
use Rattle.turns.specs.Turned.{Turned}
use Rattle.turns.specs.Turns.{Answer, plain, refused, repair, repairs, shows, trace}

-- three places, of which only the link straight from 0 to 2 may lead to the goal: it has price p
abbrev pub straight : Price → Meaning
straight p = priced (priced three 1 closed) 2 p

-- a bench of three records with these standings and lookaheads, where each place has the slot of its number, and the first
-- of them, so many, are queued
abbrev pub holding : List Price → List Price → ℕ → Memory
holding gs ls used = record {
  number = 1;
  standings = gs;
  lookaheads = ls;
  keys = record { whole = ms 0; own = ms 0 } ∷ record { whole = ms 0; own = ms 0 } ∷ record { whole = ms 0; own = ms 0 } ∷ [];
  slots = 0 ∷ 1 ∷ 2 ∷ [];
  indexes = 0 ∷ 1 ∷ 2 ∷ [];
  used = used;
}

abbrev pub all_closed : List Price
all_closed = closed ∷ closed ∷ closed ∷ []

-- the standings that a repair leaves
abbrev pub settled_at : Price → List Price
settled_at p = ms 0 ∷ ms 4 ∷ p ∷ []

-- the planner before begin, after it, and after the repair that leaves the goal at price p
abbrev pub first : Price → State
first p = record { number = 1; stage = idle; chart = straight p; bench = holding all_closed all_closed 0 }

abbrev pub begun : Price → State
begun p = record { number = 1; stage = loose; chart = straight p; bench = holding all_closed (ms 0 ∷ closed ∷ closed ∷ []) 1 }

abbrev pub repaired : Price → State
repaired p = record { number = 1; stage = firm; chart = straight p; bench = holding (settled_at p) (settled_at p) 0 }

-- a planner can come to both states, its repair answers the distance p after so many steps, and its trace into a buffer of
-- three places answers a
pub record ComesTo (p : Price) (steps : ℕ) (a : Answer) : Type 0 where
  pub to_loose : Reachable (begun p)
  pub to_firm : Reachable (repaired p)
  pub repairing : Turned (begun p) (repair 1) (repairs 1 p steps) (repaired p)
  pub tracing : Turned (repaired p) (trace 1 3) a (repaired p)

-- with the link open the distance is its price and the route is shown; with it closed there is none
pub record ToldApart : Type 0 where
  pub one_price : straight closed ≡ priced (straight (ms 9)) 2 closed
  pub with_route : ComesTo (ms 9) 3 (shows 2 (0 ∷ 2 ∷ []))
  pub without : ComesTo closed 2 (refused (plain 12))
  pub distances_differ : ms 9 ≡ closed → ⊥
