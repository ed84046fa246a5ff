use Rattle.layer_meaning.proofs.Guarding.{lawful_guarded}
use Rattle.layer_meaning.proofs.Returning.{lawful_returned}
use Rattle.layer_meaning.proofs.layers_keep_the_laws.Goals as goal

pub returns : goal.returns
returns c = record { guard = lawful_guarded; back = lawful_returned }
