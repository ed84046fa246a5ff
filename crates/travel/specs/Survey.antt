-- What the program says of a file.
use Rattle.std.specs.Prelude.{◌≡◌, ℕ, List, length, Some, None, Option, nat_le, count_by}
use Rattle.rows.specs.Rows.{is_open}
use Rattle.chart.specs.Refusals.{Refusal, told}
use Rattle.chart_file.specs.Checks.{or_else, records_refusal, refuse, require, trailer_refusal}
use Rattle.chart_file.specs.File.{link_records, trailer_of}
use Rattle.chart_file.specs.Records.{price_of}
use Rattle.chart_file.specs.declared.records.LinkRecord.{LinkRecord}
use Rattle.travel.specs.declared.fault.TravelFault.{TravelFault}
use Rattle.travel.specs.declared.fault.TravelFault.TheVariants.{Chart, TooLong, Memory}
use Rattle.travel.specs.declared.report.Report.{Report}

-- 2, tried first, for a file of more than 8,192 bytes; then what the file itself is refused by
abbrev pub input_refusal : List ℕ → Option Refusal
input_refusal file =
    or_else (require (nat_le (length file) 8192) (refuse 2 None)) (or_else (trailer_refusal file) (records_refusal file))

abbrev pub open_count : List LinkRecord → ℕ
open_count ls = count_by (λ l. is_open (price_of l)) ls

-- what is on the chart
abbrev pub report_of : List ℕ → Report
report_of file = record {
  places = (trailer_of file).places;
  links = (trailer_of file).links;
  open_links = open_count (link_records file);
  start = (trailer_of file).start;
  goal = (trailer_of file).goal;
}

-- what a fault of the program says of the file: nothing where there was no memory to read it
abbrev pub Says : List ℕ → TravelFault → Type 0
Says file (Chart f) = Some (told f) ≡ input_refusal file
Says file TooLong = Some (refuse 2 None) ≡ input_refusal file
Says file Memory = Unit {0}
