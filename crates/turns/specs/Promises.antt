-- What holds of every turn that a planner can come to, whatever came before, in routes and true distances alone.
use Rattle.std.specs.Prelude.{◌≡◌, ℕ, ◌<◌, ◌≤◌, false, ◌⊎◌, List, length, None}
use Rattle.rows.specs.Rows.{Price, less}
use Rattle.chart.specs.Meaning.{Meaning}
use Rattle.chart.specs.Routes.{Among, NoRoute, Route, TrueDistance, places_price}
use Rattle.lifelong.specs.Standings.{standing_at}
use Rattle.lifelong.specs.Run.{expanded, how_often, run}
use Rattle.turns.specs.State.{State}
use Rattle.turns.specs.Turned.{Turned}
use Rattle.turns.specs.Turns.{Answer, plain, precheck, refused, repair, repairs, short_buffer, shows, trace}
use Rattle.turns.specs.History.{Reachable}

-- of a repair past 10 and 9, which answers a
pub record RepairPromises (s : State) (a : Answer) : Type 0 where
  -- what is answered: it is never refused by 11
  pub distance : Price
  pub steps : ℕ
  pub is_answered : a ≡ repairs s.number distance steps
  pub repair_answers_the_true_distance : TrueDistance s.chart s.chart.goal distance
  -- of the defined steps from the standings then, as many as were answered
  pub no_place_is_expanded_more_than_twice : (x : ℕ) → how_often x (expanded (run s.chart steps s.bench.standings)) ≤ 2
  pub no_true_standing_is_expanded : (x : ℕ) → TrueDistance s.chart x (standing_at s.bench.standings x) →
      Among x (expanded (run s.chart steps s.bench.standings)) → ⊥

-- a cheapest route, by its places: it stands, its price, also as a list of places, is the goal's true distance, and every
-- route costs at least as much
pub record CheapestRoute (m : Meaning) (ps : List ℕ) : Type 0 where
  pub price : Price
  pub what_is_shown_is_a_route : Route m ps price
  pub as_places : places_price m ps ≡ price
  pub its_price_is_the_true_distance : TrueDistance m m.goal price
  pub no_route_costs_less : (qs : List ℕ) (q : Price) → Route m qs q → less q price ≡ false

-- the route is shown, or refused by 13 with its length exactly where it is longer than the buffer
pub record ShownWithin (long : ℕ) (a : Answer) (ps : List ℕ) : Type 0 where
  pub fits : length ps ≤ long → a ≡ shows (length ps) ps
  pub too_long : long < length ps → a ≡ refused (short_buffer (length ps))

-- two answers find the same: both none, or one route, even where a short buffer refuses one of them
abbrev pub SameFound : Meaning → ℕ → Answer → ℕ → Answer → Type 0
SameFound m long a wide b =
    (NoRoute m × (a ≡ refused (plain 12)) × (b ≡ refused (plain 12)))
    ⊎ ((ps : List ℕ) × CheapestRoute m ps × ShownWithin long a ps × ShownWithin wide b ps)

-- of a trace past 10 and 9 into a buffer of that length, which answers a
pub record TracePromises (s : State) (long : ℕ) (a : Answer) : Type 0 where
  pub none_is_told_exactly_when_no_route_stands :
      (a ≡ refused (plain 12) → NoRoute s.chart) × (NoRoute s.chart → a ≡ refused (plain 12))
  -- else there is a cheapest route, and it is shown or too long: 11 is never answered
  pub the_cheapest_route_is_shown :
      (NoRoute s.chart → ⊥) → (ps : List ℕ) × CheapestRoute s.chart ps × ShownWithin long a ps
  -- whatever came before here or there: any planner that can have come to a trace over a chart that means the same
  pub equal_charts_show_equal_routes : (t : State) → Reachable t → t.chart ≡ s.chart →
      (k wide : ℕ) (b : Answer) (u : State) → precheck t (trace k wide) ≡ None → Turned t (trace k wide) b u →
      SameFound s.chart long a wide b

-- the promises: from every state that a planner can come to, by whatever list of turns over whatever chart, each repair and
-- each trace that passes 10 and 9 keeps them
abbrev pub Promises : State → Type 0
Promises s =
    ((k : ℕ) (a : Answer) (t : State) → precheck s (repair k) ≡ None → Turned s (repair k) a t → RepairPromises s a)
    × ((k long : ℕ) (a : Answer) (t : State) → precheck s (trace k long) ≡ None → Turned s (trace k long) a t → TracePromises s long a)
