use Rattle.std.proofs.Common.{refl}
use Rattle.bench.proofs.Links.{linked, swap_same}
use Rattle.bench.proofs.Stays.{swap_stays}
use Rattle.bench.proofs.bench.Bench.swap.Goals as goal

pub returns-clause-reordered : goal.returns-clause-reordered
returns-clause-reordered g c =
    let q = c.args.self.now in
    let rs = q.records.now in
    let ss = c.exchange.new.records in
    let x = c.exchange.ensures in
    record {
      lender = (refl, (refl, c.exchange.auto.records));
      used = refl;
      kept = x.kept;
      same = swap_same rs ss c.args.a c.args.b x q.used (linked q) c.requires.first c.requires.second;
      past = swap_stays rs ss c.args.a c.args.b x q.used (linked q) c.requires.first c.requires.second;
    }
