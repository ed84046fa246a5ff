-- The place records of a link chart.
use Rattle.std.specs.Prelude.{ℕ, cond, List, [], ◌∷◌, take, ◌==◌}
use Rattle.chart.specs.Meaning.{Meaning}
use Rattle.chart_file.specs.Records.{no_place, records_mean}
use Rattle.chart_file.specs.declared.records.PlaceRecord.{PlaceRecord}

-- the places of the chart: the first records of the memory; a chart that no file was read into has one place
abbrev pub places_of : ℕ → List PlaceRecord → List PlaceRecord
places_of count ps = cond (count == 0) (no_place ∷ []) (take count ps)

-- one place, which is start and goal, and no links
abbrev pub one_place : Meaning
one_place = records_mean 0 0 (no_place ∷ []) []
