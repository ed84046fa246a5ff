use Rattle.layer_meaning.proofs.Returning.{into_returned, links_reversed, out_returned}
use Rattle.layer_meaning.proofs.a_return_answers_from_below.Goals as goal

pub returns : goal.returns
returns c = record { links = links_reversed; into = into_returned; out = out_returned }
