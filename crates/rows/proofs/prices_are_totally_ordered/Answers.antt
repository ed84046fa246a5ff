use Rattle.rows.proofs.Order.{total_order}
use Rattle.rows.proofs.prices_are_totally_ordered.Goals as goal

pub returns : goal.returns
returns c = total_order
