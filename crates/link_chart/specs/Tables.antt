-- The table of a chart's links.
use Rattle.std.specs.Prelude.{List, map, Some, Option}
use Rattle.chart.specs.Meaning.{Link}
use Rattle.chart_file.specs.Records.{link_of}
use Rattle.chart_file.specs.declared.records.LinkRecord.{LinkRecord}

-- every number names a link
abbrev pub table_of : List LinkRecord → List (Option Link)
table_of ls = map (λ l. Some (link_of l)) ls
