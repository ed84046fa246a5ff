-- What a trace of settled standings shows.
use Rattle.std.specs.Prelude.{◌≡◌, ℕ, ◌≤◌, true, false, List, reverse, length, ◌≢◌}
use Rattle.rows.specs.Rows.{Price, is_open, less}
use Rattle.chart.specs.Lawful.{Lawful}
use Rattle.chart.specs.Meaning.{Meaning, places}
use Rattle.chart.specs.Routes.{NoRoute, Route, TrueDistance, places_price}
use Rattle.lifelong.specs.Standings.{standing_at}
use Rattle.lifelong.specs.Step.{settled}
use Rattle.lifelong.specs.Trace.{TrueTrace, misses, none, shows, trace}
use Rattle.lifelong.specs.Bounds.{Always, Bounds}

-- these places are the cheapest route, and the trace shows them
pub record Cheapest (m : Meaning) (gs : List Price) (ps : List ℕ) : Type 0 where
  -- the trace reaches the start, in fewer moves than there are places
  pub shown : trace m gs ≡ shows ps
  pub moves : length ps ≤ places m
  -- it shows a route; its price, also as a list of places, is the goal's true distance
  pub route : Route m ps (standing_at gs m.goal)
  pub as_places : places_price m ps ≡ standing_at gs m.goal
  pub distance : TrueDistance m m.goal (standing_at gs m.goal)
  -- no route costs less
  pub least : (qs : List ℕ) (q : Price) → Route m qs q → less q (standing_at gs m.goal) ≡ false
  -- at each place it goes to the from place of least true distance plus price, of equals the lowest number
  pub by_distances : TrueTrace m m.goal (reverse ps)

-- settled, with an open goal, the trace shows a cheapest route
abbrev pub ShowsCheapest : Type 0
ShowsCheapest = Always (λ m gs. settled m gs ≡ true →
    is_open (standing_at gs m.goal) ≡ true → (ps : List ℕ) × Cheapest m gs ps)

-- a settled trace has none to show exactly when no route stands
abbrev pub NoneWithoutRoute : Type 0
NoneWithoutRoute = Always (λ m gs. settled m gs ≡ true →
    (trace m gs ≡ none → NoRoute m) × (NoRoute m → trace m gs ≡ none))

-- and never misses the start
abbrev pub NeverMisses : Type 0
NeverMisses = Always (λ m gs. settled m gs ≡ true → trace m gs ≢ misses)

-- such moves lead back from a place in one way only: the route is a function of the chart alone
abbrev pub OneTrueTrace : Type 0
OneTrueTrace = (m : Meaning) → Lawful m → (x : ℕ) (ps qs : List ℕ) →
    TrueTrace m x ps → TrueTrace m x qs → ps ≡ qs

-- whatever came before, equal charts show equal routes
abbrev pub OneTrace : Type 0
OneTrace = (m : Meaning) → Lawful m → (gs hs : List Price) → Bounds m gs → Bounds m hs →
    settled m gs ≡ true → settled m hs ≡ true → trace m gs ≡ trace m hs
