use Rattle.lattice_meaning.proofs.Next.{next_at}
use Rattle.lattice_meaning.proofs.links_follow_the_directions.Goals as goal

pub returns : goal.returns
returns c = next_at
