-- Where the parts of a chart file lie. Numbers are unsigned, low byte first.
use Rattle.std.specs.Prelude.{ℕ, ◌+◌, ◌-◌, ◌*◌, Bool, ◌&&◌, List, map, ◌++◌, length, take, drop, ◌==◌, nat_le, slice_index}
use Rattle.std.specs.List.{range_with_len}
use Rattle.chart.specs.Meaning.{Meaning}
use Rattle.chart_file.specs.declared.records.LinkRecord.{LinkRecord}
use Rattle.chart_file.specs.declared.records.PlaceRecord.{PlaceRecord}
use Rattle.chart_file.specs.declared.trailer.Trailer.{Trailer}
use Rattle.chart_file.specs.Records.{records_mean}

abbrev pub two_bytes : List ℕ → ℕ → ℕ
two_bytes file at = slice_index file at + slice_index file (at + 1) * 256

abbrev pub four_bytes : List ℕ → ℕ → ℕ
four_bytes file at = slice_index file at + slice_index file (at + 1) * 256 + slice_index file (at + 2) * 65536 + slice_index file (at + 3) * 16777216

-- it has a trailer, and its last letters are LAST
abbrev pub is_chart : List ℕ → Bool
is_chart file =
    nat_le 16 (length file)
    && (slice_index file (length file - 4) == 76 && slice_index file (length file - 3) == 65
    && slice_index file (length file - 2) == 83 && slice_index file (length file - 1) == 84)

-- the last 16 bytes: start, goal, places, links, length back, LAST
abbrev pub trailer_of : List ℕ → Trailer
trailer_of file = record {
  start = two_bytes file (length file - 16);
  goal = two_bytes file (length file - 14);
  places = two_bytes file (length file - 12);
  links = two_bytes file (length file - 10);
  back = four_bytes file (length file - 8);
}

-- the length back counts from the end of the file to the first place record; link records follow
abbrev pub first_place : List ℕ → ℕ
first_place file = length file - (trailer_of file).back

-- lifts, milliseconds
abbrev pub place_at : List ℕ → ℕ → PlaceRecord
place_at file at = record { lifts = four_bytes file at; ms = four_bytes file (at + 4) }

-- from, to, floor lifts, price lifts, floor milliseconds, price milliseconds
abbrev pub link_at : List ℕ → ℕ → LinkRecord
link_at file at = record {
  from = two_bytes file at;
  to = two_bytes file (at + 2);
  floor_lifts = two_bytes file (at + 4);
  price_lifts = two_bytes file (at + 6);
  floor_ms = four_bytes file (at + 8);
  price_ms = four_bytes file (at + 12);
}

-- how the records of one type lie: the bytes of each, how many there are, the bytes from the first place record to the
-- first of these, and the record whose bytes begin at an offset of the file
pub record Layout (A : Type 0) : Type 0 where
  pub size : ℕ
  pub count : Trailer → ℕ
  pub offset : Trailer → ℕ
  pub at : List ℕ → ℕ → A

-- the record of a number
abbrev pub record_of : {A : Type 0} → Layout A → List ℕ → ℕ → A
record_of l file n = l.at file (l.offset (trailer_of file) + first_place file + l.size * n)

-- all of them, as many as the trailer counts
abbrev pub records_of : {A : Type 0} → Layout A → List ℕ → List A
records_of l file = map (record_of l file) (range_with_len 0 (l.count (trailer_of file)))

-- a memory whose first records are those of the file; what lies past them is as it was
abbrev pub filled : {A : Type 0} → Layout A → List ℕ → List A → List A
filled l file memory = records_of l file ++ drop (l.count (trailer_of file)) memory

abbrev pub place_layout : Layout PlaceRecord
place_layout = record { size = 8; count = λ t. t.places; offset = λ t. 0; at = place_at }

abbrev pub link_layout : Layout LinkRecord
link_layout = record { size = 16; count = λ t. t.links; offset = λ t. 8 * t.places; at = link_at }

abbrev pub place_record : List ℕ → ℕ → PlaceRecord
place_record = record_of place_layout

abbrev pub link_record : List ℕ → ℕ → LinkRecord
link_record = record_of link_layout

abbrev pub place_records : List ℕ → List PlaceRecord
place_records = records_of place_layout

abbrev pub link_records : List ℕ → List LinkRecord
link_records = records_of link_layout

-- the chart of memory that was filled: its first records, as many as the trailer counts
abbrev pub trailer_mean : Trailer → List PlaceRecord → List LinkRecord → Meaning
trailer_mean t ps ls = records_mean t.start t.goal (take t.places ps) (take t.links ls)

-- the chart that a file draws
abbrev pub drawn : List ℕ → Meaning
drawn file = records_mean (trailer_of file).start (trailer_of file).goal (place_records file) (link_records file)
