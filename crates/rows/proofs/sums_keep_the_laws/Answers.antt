use Rattle.rows.proofs.Sums.{laws_of}
use Rattle.rows.proofs.sums_keep_the_laws.Goals as goal

pub returns : goal.returns
returns c = laws_of
