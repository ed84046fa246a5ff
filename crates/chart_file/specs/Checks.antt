-- Why a chart file is refused, if it is: one definition over all its records.
use Rattle.std.specs.Prelude.{◌≡◌, ℕ, suc, ◌+◌, ◌*◌, ◌≤◌, Bool, true, false, cond, ◌&&◌, List, [], ◌∷◌, length, Some, None, Option, ◌==◌, nat_le, nat_lt}
use Rattle.rows.specs.Rows.{Price}
use Rattle.chart.specs.Refusals.{Refusal, unless}
use Rattle.std.specs.Option.{option_map}
use Rattle.chart_file.specs.declared.records.LinkRecord.{LinkRecord}
use Rattle.chart_file.specs.declared.records.PlaceRecord.{PlaceRecord}
use Rattle.chart_file.specs.declared.trailer.Trailer.{Trailer}
use Rattle.chart_file.specs.Records.{estimate_of, keeps_estimate, keeps_rules}
use Rattle.chart_file.specs.File.{Layout, filled, is_chart, link_records, place_record, trailer_of}

-- 1 to 4,096 places, at most 16,384 links, start and goal among the places, and a length back that fits both the
-- counts and the file
abbrev pub in_limits : Trailer → ℕ → Bool
in_limits t bytes =
    (nat_le 1 t.places && nat_le t.places 4096 && nat_le t.links 16384)
    && (nat_lt t.start t.places && nat_lt t.goal t.places)
    && (t.back == 8 * t.places + 16 * t.links + 16 && nat_le t.back bytes)

-- the lowest index at which a test fails; none if it holds throughout
abbrev pub lowest_failing : {A : Type 0} → (A → Bool) → List A → Option ℕ
lowest_failing test [] = None
lowest_failing test (x ∷ xs) = cond (test x) (option_map suc (lowest_failing test xs)) (Some 0)

abbrev pub estimate_in : List ℕ → ℕ → Price
estimate_in file p = estimate_of (place_record file p)

-- the estimate law at a link of a file
abbrev pub estimate_holds : List ℕ → LinkRecord → Bool
estimate_holds file l = keeps_estimate (estimate_in file l.from) (estimate_in file l.to) l

abbrev pub goal_is_zero : PlaceRecord → Bool
goal_is_zero p = p.lifts == 0 && p.ms == 0

abbrev pub refuse : ℕ → Option ℕ → Refusal
refuse by link = record { by = by; link = link; height = 0 }

-- a refusal where a test fails
abbrev pub require : Bool → Refusal → Option Refusal
require true r = None
require false r = Some r

-- a refusal at a link, where one is named
abbrev pub at_link : ℕ → Option ℕ → Option Refusal
at_link by None = None
at_link by (Some n) = Some (refuse by (Some n))

-- the first refusal, or else the second
abbrev pub or_else : Option Refusal → Option Refusal → Option Refusal
or_else None second = second
or_else (Some r) second = Some r

-- 4: the lowest link record that breaks its rules; 5: the goal's estimate is not zero, or the lowest link at
-- which the estimate law fails
abbrev pub records_refusal : List ℕ → Option Refusal
records_refusal file =
    or_else (at_link 4 (lowest_failing (keeps_rules (trailer_of file).places) (link_records file)))
    (or_else (require (goal_is_zero (place_record file (trailer_of file).goal)) (refuse 5 None))
    (at_link 5 (lowest_failing (estimate_holds file) (link_records file))))

-- 1: too short, or no LAST; 2: outside the limits
abbrev pub trailer_refusal : List ℕ → Option Refusal
trailer_refusal file =
    or_else (require (is_chart file) (refuse 1 None)) (require (in_limits (trailer_of file) (length file)) (refuse 2 None))

-- 9: lent memory for fewer records than there are
abbrev pub room_refusal : Trailer → ℕ → ℕ → Option Refusal
room_refusal t place_room link_room = require (nat_le t.places place_room && nat_le t.links link_room) (refuse 9 None)

-- 1, 2, 9, 4, 5, in that order
abbrev pub file_refusal : List ℕ → ℕ → ℕ → Option Refusal
file_refusal file place_room link_room =
    or_else (trailer_refusal file) (or_else (room_refusal (trailer_of file) place_room link_room) (records_refusal file))

-- what holds of the trailer of a file that is not refused
pub record Passed (file : List ℕ) (place_room link_room : ℕ) (t : Trailer) : Type 0 where
  pub whole : t ≡ trailer_of file
  pub within : in_limits t (length file) ≡ true
  pub places_fit : t.places ≤ place_room
  pub links_fit : t.links ≤ link_room
  pub records : records_refusal file ≡ None

-- memory after the records of a file were copied over its first; as it was where the file has no trailer within the
-- limits, or there is no room
abbrev pub copied : {A : Type 0} → Layout A → List ℕ → List A → List A
copied l file memory =
    unless (or_else (trailer_refusal file) (require (nat_le (l.count (trailer_of file)) (length memory)) (refuse 9 None))) memory (filled l file memory)
