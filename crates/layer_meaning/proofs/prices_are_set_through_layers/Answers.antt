use Rattle.layer_meaning.proofs.Guarding as guard
use Rattle.layer_meaning.proofs.Returning as back
use Rattle.layer_meaning.proofs.prices_are_set_through_layers.Goals as goal

pub returns : goal.returns
returns c = record { refused = guard.refused_held; guard = guard.handed_on; back = back.handed_on; upper = guard.upper_holds }
