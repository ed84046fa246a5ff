-- The table of a chart's links.
use Rattle.std.proofs.Common.{◌≡◌, ℕ, ◌<◌, ◌≤◌, List, length, get_or, take, Some, None, ap, ◌∙◌, arith}
use Rattle.std.proofs.lemmas.List.{get_or-map, get_or_past, get_or-take, length-map, length-take-le}
use Rattle.chart_file.specs.Records.{link_of, no_link}
use Rattle.chart_file.specs.declared.records.LinkRecord.{LinkRecord}
use Rattle.link_chart.specs.Tables.{table_of}

pub table_length : (ls : List LinkRecord) (count : ℕ) → count ≤ length ls → length (table_of (take count ls)) ≡ count
table_length ls count h = length-map (take count ls) (λ (l : LinkRecord). Some (link_of l)) ∙ length-take-le count ls h

pub table_at : (ls : List LinkRecord) (count n : ℕ) → count ≤ length ls → n < count → get_or (table_of (take count ls)) n None ≡ Some (link_of (get_or ls n no_link))
table_at ls count n h l =
    get_or-map (λ (r : LinkRecord). Some (link_of r)) (take count ls) n no_link None (omega (arith, length-take-le count ls h))
    ∙ ap (λ (r : LinkRecord). Some (link_of r)) (get_or-take count ls n no_link l)

pub table_past : (ls : List LinkRecord) (count n : ℕ) → count ≤ length ls → count ≤ n → get_or (table_of (take count ls)) n None ≡ None
table_past ls count n h l = get_or_past (table_of (take count ls)) n None (omega (arith, table_length ls count h))
