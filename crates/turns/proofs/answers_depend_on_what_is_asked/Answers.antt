use Rattle.turns.proofs.Answered.{same_answer}
use Rattle.turns.proofs.answers_depend_on_what_is_asked.Goals as goal

pub returns : goal.returns
returns c = same_answer
