use Rattle.lattice_meaning.proofs.Written.{first_ruled, set_priced}
use Rattle.lattice_meaning.proofs.written_numbers_are_prices.Goals as goal

pub returns : goal.returns
returns c = record { first = first_ruled; set = set_priced }
