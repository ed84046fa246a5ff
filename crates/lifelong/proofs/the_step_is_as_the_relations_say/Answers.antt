use Rattle.lifelong.proofs.Agreement.{steps_agree}
use Rattle.lifelong.proofs.the_step_is_as_the_relations_say.Goals as goal

pub returns : goal.returns
returns c = steps_agree
