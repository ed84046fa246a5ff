-- The rules that the records of a whole chart keep.
use Rattle.std.specs.Prelude.{◌≡◌, ℕ, ◌^◌, ◌<◌, ◌≤◌, true, List, length}
use Rattle.chart_file.specs.Checks.{goal_is_zero}
use Rattle.chart_file.specs.Records.{estimate_of, keeps_estimate, keeps_rules, link_in, place_in}
use Rattle.chart_file.specs.declared.records.LinkRecord.{LinkRecord}
use Rattle.chart_file.specs.declared.records.PlaceRecord.{PlaceRecord}

-- each number of an estimate has 32 bits
abbrev pub Small : List PlaceRecord → Type 0
Small ps = (p : ℕ) → p < length ps → ((place_in ps p).lifts < 2 ^ 32) × ((place_in ps p).ms < 2 ^ 32)

-- each link record keeps its rules
abbrev pub Ruled : List PlaceRecord → List LinkRecord → Type 0
Ruled ps ls = (n : ℕ) → n < length ls → keeps_rules (length ps) (link_in ls n) ≡ true

-- the estimate law holds at each link
abbrev pub Estimated : List PlaceRecord → List LinkRecord → Type 0
Estimated ps ls = (n : ℕ) → n < length ls →
    keeps_estimate (estimate_of (place_in ps (link_in ls n).from)) (estimate_of (place_in ps (link_in ls n).to)) (link_in ls n) ≡ true

-- records that are a lawful chart with this start and goal
pub record Rules (start goal : ℕ) (ps : List PlaceRecord) (ls : List LinkRecord) : Type 0 where
  pub places_few : length ps ≤ 4096
  pub start_in : start < length ps
  pub goal_in : goal < length ps
  pub links_few : length ls ≤ 16384
  pub small : Small ps
  pub ruled : Ruled ps ls
  pub goal_zero : goal_is_zero (place_in ps goal) ≡ true
  pub estimated : Estimated ps ls
