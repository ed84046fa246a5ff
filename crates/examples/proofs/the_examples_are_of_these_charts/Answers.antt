use mathlib.Core.Path.{refl}
use Rattle.examples.proofs.the_examples_are_of_these_charts.Goals as goal

pub returns : goal.returns
returns c = record { under_guard = refl; turned_round = refl; laid_out = refl }
