use Rattle.std.proofs.Common.{rules}
use Rattle.price.specs.Proper.{time_proper}
use Rattle.price.specs.Kinds.{time_kind}
use Rattle.price.specs.declared.time.Time.TheVariants.{Open}
use Rattle.price.proofs.Made.{made, refused, single}
use Rattle.price.proofs.time.TimePriceKind.from_numbers.Goals as goal

pub returns-in_err-ms : goal.returns-in_err-ms
returns-in_err-ms c =
    rw c.from_residual.ensures (refused time_kind c.args.numbers.now 0 (search rules) c.in_err-ms.ensures)

pub returns : goal.returns
returns c = made time_kind c.args.numbers.now _
    (single c.args.numbers.now c.in_ok-ms.ms.value (search rules) c.in_ok-ms.ensures.1)
    (time_proper (Open c.in_ok-ms.ms))
