use Rattle.std.proofs.Common.{refl}
use Rattle.bench.proofs.Links.{rewritten}
use Rattle.bench.proofs.changes.Bench+P.put_standing.Goals as goal

pub invariant_of-self : goal.invariant_of-self
invariant_of-self g c =
    let q = c.args.self.now in
    let i = c.from-at.result in
    let d = c.index-self-at.result in
    record {
      within = (rewritten q i d _ refl refl).within;
      small = q.small;
      named = (rewritten q i d _ refl refl).named;
      low = (rewritten q i d _ refl refl).low;
      back = (rewritten q i d _ refl refl).back;
    }
