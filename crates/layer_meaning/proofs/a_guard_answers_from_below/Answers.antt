use Rattle.layer_meaning.proofs.Guarding.{into_guarded, links_held, out_guarded}
use Rattle.layer_meaning.proofs.a_guard_answers_from_below.Goals as goal

pub returns : goal.returns
returns c = record { links = links_held; into = into_guarded; out = out_guarded }
