use Rattle.std.proofs.Common.{rules}
use Rattle.price.specs.Proper.{lift_proper}
use Rattle.price.specs.Kinds.{lift_kind}
use Rattle.price.specs.declared.lift.Lift.TheVariants.{Open}
use Rattle.price.proofs.Made.{made, pair, refused}
use Rattle.price.proofs.lift.LiftPriceKind.from_numbers.Goals as goal

pub returns-in_err-lifts : goal.returns-in_err-lifts
returns-in_err-lifts c =
    rw c.from_residual.ensures (refused lift_kind c.args.numbers.now 0 (search rules) c.in_err-lifts.ensures)

pub returns-in_err-ms : goal.returns-in_err-ms
returns-in_err-ms c =
    rw c.from_residual-in_err-ms.ensures (refused lift_kind c.args.numbers.now 1 (search rules) c.in_err-ms.ensures)

pub returns : goal.returns
returns c = made lift_kind c.args.numbers.now _
    (pair c.args.numbers.now c.in_ok-lifts.lifts.value c.in_ok-ms.ms.value (search rules)
    c.in_ok-lifts.ensures.1 c.in_ok-ms.ensures.1)
    (lift_proper (Open c.in_ok-lifts.lifts c.in_ok-ms.ms))
