-- A link record with another price.
use Rattle.std.specs.Prelude.{ℕ}
use Rattle.chart_file.specs.declared.records.LinkRecord.{LinkRecord}
use Rattle.rows.specs.Rows.{Price, number_at}
use Rattle.std.specs.Option.{unwrap_or}

-- the number at a position of a price, 0 where it is closed
abbrev pub amount : Price → ℕ → ℕ
amount p position = unwrap_or (number_at p position) 0

-- the same link at another price
abbrev pub repriced : LinkRecord → Price → LinkRecord
repriced l p = record {
  from = l.from;
  to = l.to;
  floor_lifts = l.floor_lifts;
  price_lifts = amount p 0;
  floor_ms = l.floor_ms;
  price_ms = amount p 1;
}
