-- What a return makes of the chart below it.
use Rattle.std.specs.Prelude.{map, Some, None, Option}
use Rattle.rows.specs.Rows.{Price, zero_of}
use Rattle.chart.specs.Meaning.{Link, Meaning}
use Rattle.layer_meaning.specs.Heights.{above}

-- the same link the other way round
abbrev pub reversed : Option Link → Option Link
reversed None = None
reversed (Some l) = Some (record { from = l.to; to = l.from; floor = l.floor; price = l.price; held = l.held })

-- one higher, with the ends of each link swapped, and start with goal; every estimate is zero, all else as below
abbrev pub returned : Meaning → Meaning
returned m = record {
  kind = m.kind;
  start = m.goal;
  goal = m.start;
  height = above m.height;
  links = map reversed m.links;
  estimates = map (λ (_ : Price). zero_of m.kind) m.estimates;
}
