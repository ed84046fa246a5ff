use Rattle.std.proofs.Common.{rules}
use Rattle.layers.proofs.Among.{any_among}
use Rattle.layers.proofs.guard.Guard.lists.Goals as goal

pub returns : goal.returns
returns g c = search (rules, any_among c.args.self.now.listed.items c.args.place)
