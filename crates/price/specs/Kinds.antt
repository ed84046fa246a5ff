-- The two kinds of price, and the price that a value of each stands for.
use Rattle.std.specs.Prelude.{◌^◌, [], ◌∷◌}
use Rattle.rows.specs.Rows.{Price, Kind, closed, open_at}
use Rattle.price.specs.declared.time.Time.{Time}
use Rattle.price.specs.declared.lift.Lift.{Lift}
use Rattle.price.specs.declared.time.Time.TheVariants as time
use Rattle.price.specs.declared.lift.Lift.TheVariants as lift

-- milliseconds
abbrev pub time_kind : Kind
time_kind = record { long = 1; ceiling = 2 ^ 40; largest = 1000000 ∷ [] }

-- spindle lifts, then milliseconds
abbrev pub lift_kind : Kind
lift_kind = record { long = 2; ceiling = 2 ^ 40; largest = 255 ∷ 1000000 ∷ [] }

abbrev pub time_value : Time → Price
time_value time.Closed = closed
time_value (time.Open ms) = open_at (ms.value ∷ [])

abbrev pub lift_value : Lift → Price
lift_value lift.Closed = closed
lift_value (lift.Open lifts ms) = open_at (lifts.value ∷ ms.value ∷ [])
