-- What place records and link records mean: a chart of lift prices at height 0.
use Rattle.std.specs.Prelude.{ℕ, Bool, cond, not, ◌&&◌, List, [], ◌∷◌, map, Some, ◌==◌, nat_lt, slice_index_or}
use Rattle.rows.specs.Rows.{Price, closed, less, linkable, open_at, sum, zero_of}
use Rattle.price.specs.Kinds.{lift_kind}
use Rattle.chart.specs.Meaning.{Link, Meaning}
use Rattle.chart.specs.declared.end.End.{End}
use Rattle.chart.specs.declared.end.End.TheVariants.{From, To}
use Rattle.chart_file.specs.declared.records.LinkRecord.{LinkRecord}
use Rattle.chart_file.specs.declared.records.PlaceRecord.{PlaceRecord}

abbrev pub lifts_ms : ℕ → ℕ → Price
lifts_ms lifts ms = open_at (lifts ∷ ms ∷ [])

abbrev pub estimate_of : PlaceRecord → Price
estimate_of p = lifts_ms p.lifts p.ms

abbrev pub floor_of : LinkRecord → Price
floor_of l = lifts_ms l.floor_lifts l.floor_ms

-- a price of 0 and 0 is closed
abbrev pub price_of : LinkRecord → Price
price_of l = cond (l.price_lifts == 0 && l.price_ms == 0) closed (lifts_ms l.price_lifts l.price_ms)

abbrev pub link_of : LinkRecord → Link
link_of l = record { from = l.from; to = l.to; floor = floor_of l; price = price_of l; held = 0 }

abbrev pub end_of : End → LinkRecord → ℕ
end_of From l = l.from
end_of To l = l.to

-- the chart of these records
abbrev pub records_mean : ℕ → ℕ → List PlaceRecord → List LinkRecord → Meaning
records_mean start goal ps ls = record {
  kind = lift_kind;
  start = start;
  goal = goal;
  height = 0;
  links = map (λ l. Some (link_of l)) ls;
  estimates = map estimate_of ps;
}

-- the rules of a link record in a chart of so many places: two different places of the chart, the floor above
-- zero, no number above the kind's largest, and the price closed or at least the floor
abbrev pub keeps_rules : ℕ → LinkRecord → Bool
keeps_rules places l =
    (nat_lt l.from places && nat_lt l.to places && not (l.from == l.to))
    && (less (zero_of lift_kind) (floor_of l) && linkable lift_kind (floor_of l))
    && (linkable lift_kind (price_of l) && not (less (price_of l) (floor_of l)))

-- the estimate of the from place is at most the floor plus the estimate of the to place
abbrev pub keeps_estimate : Price → Price → LinkRecord → Bool
keeps_estimate from to l = not (less (sum lift_kind (floor_of l) to) from)

-- what stands where there is no record
abbrev pub no_place : PlaceRecord
no_place = record { lifts = 0; ms = 0 }

abbrev pub no_link : LinkRecord
no_link = record { from = 0; to = 0; floor_lifts = 0; price_lifts = 0; floor_ms = 0; price_ms = 0 }

abbrev pub place_in : List PlaceRecord → ℕ → PlaceRecord
place_in ps p = slice_index_or ps p no_place

abbrev pub link_in : List LinkRecord → ℕ → LinkRecord
link_in ls n = slice_index_or ls n no_link
