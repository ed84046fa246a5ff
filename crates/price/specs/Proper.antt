-- The two kinds keep the laws, and every value of them is a price of its kind.
use Rattle.std.specs.Prelude.{◌^◌, true, ◌&&◌, nat_lt, refl}
use Rattle.std.proofs.Common.{lit≤}
use Rattle.std.proofs.lemmas.Bool.{and_from, lt-ltb}
use Rattle.rows.specs.Rows.{Proper}
use Rattle.price.specs.Kinds.{lift_kind, lift_value, time_kind, time_value}
use Rattle.rows.specs.Laws.{Laws}
use Rattle.price.specs.declared.lift.Lift.{Lift}
use Rattle.price.specs.declared.lift.Lift.TheVariants as lift
use Rattle.price.specs.declared.time.Time.{Time}
use Rattle.price.specs.declared.time.Time.TheVariants as time
use Rattle.rows.proofs.Sums.{laws_of}

pub time_laws : Laws time_kind
time_laws = laws_of time_kind (lit≤ tt) refl

pub lift_laws : Laws lift_kind
lift_laws = laws_of lift_kind (lit≤ tt) refl

pub time_proper : (t : Time) → Proper time_kind (time_value t)
time_proper time.Closed = tt
time_proper (time.Open ms) = and_from (nat_lt ms.value (2 ^ 40)) true (lt-ltb ms.value (2 ^ 40) ms.below) refl

pub lift_proper : (t : Lift) → Proper lift_kind (lift_value t)
lift_proper lift.Closed = tt
lift_proper (lift.Open lifts ms) =
    and_from (nat_lt lifts.value (2 ^ 40)) (nat_lt ms.value (2 ^ 40) && true) (lt-ltb lifts.value (2 ^ 40) lifts.below)
    (and_from (nat_lt ms.value (2 ^ 40)) true (lt-ltb ms.value (2 ^ 40) ms.below) refl)
