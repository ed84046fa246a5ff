-- What a link chart means.
use Rattle.std.specs.Prelude.{ℕ, List, length, take, Option}
use Rattle.chart.specs.Lawful.{Lawful}
use Rattle.chart.specs.Meaning.{Meaning}
use Rattle.chart.specs.Refusals.{Refusal}
use Rattle.chart_file.proofs.Lawful.{records_lawful}
use Rattle.chart_file.specs.Checks.{file_refusal}
use Rattle.chart_file.specs.File.{filled, link_layout, place_layout}
use Rattle.chart_file.specs.Records.{records_mean}
use Rattle.chart_file.specs.declared.records.LinkRecord.{LinkRecord}
use Rattle.chart_file.specs.declared.records.PlaceRecord.{PlaceRecord}
use Rattle.link_chart.specs.Places.{places_of}
use Rattle.link_chart.specs.declared.over.LinkChart.{LinkChart}

abbrev pub place_records : LinkChart → List PlaceRecord
place_records c = places_of c.place_count c.places.now

abbrev pub link_records : LinkChart → List LinkRecord
link_records c = take c.link_count c.links.now

-- lift prices, height 0, over the first records of each memory
abbrev pub chart_of : LinkChart → Meaning
chart_of c = records_mean c.start c.goal (place_records c) (link_records c)

pub chart_lawful : (c : LinkChart) → Lawful (chart_of c)
chart_lawful c = records_lawful c.start c.goal (place_records c) (link_records c) c.rules

-- what reading a file into the chart is refused by, if it is
abbrev pub read_refusal : LinkChart → List ℕ → Option Refusal
read_refusal c file = file_refusal file (length c.places.now) (length c.links.now)

-- the memory once a file was read: its records, then what was there
abbrev pub filled_places : LinkChart → List ℕ → List PlaceRecord
filled_places c file = filled place_layout file c.places.now

abbrev pub filled_links : LinkChart → List ℕ → List LinkRecord
filled_links c file = filled link_layout file c.links.now
