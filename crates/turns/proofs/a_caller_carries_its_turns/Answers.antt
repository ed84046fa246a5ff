use Rattle.turns.proofs.Carried.{carried, first_hour}
use Rattle.turns.proofs.a_caller_carries_its_turns.Goals as goal

pub returns : goal.returns
returns c = record { first = first_hour; next = carried }
