use Rattle.std.proofs.Common.{length, arith}
use Rattle.bench.specs.Records.{indexes, slots}
use Rattle.bench.proofs.Appends.{append_linked, set_after}
use Rattle.bench.proofs.Links.{linked}
use Rattle.bench.proofs.Pigeons.{fewer}
use Rattle.bench.proofs.bench.Bench.append.Goals as goal

pub link-requires-clause-slot : goal.link-requires-clause-slot
link-requires-clause-slot g c =
    let q = c.args.self.now in
    let h = linked q in
    let a = fewer q.records.now q.used c.args.place (length q.records.now) h h.named c.requires.inside.0 c.requires.new in
    let b = fewer q.records.now q.used c.args.place 4096 h h.low c.requires.inside.1 c.requires.new in
    let k = c.put_key.auto.records in
    (omega arith, b)

pub invariant_of-self : goal.invariant_of-self
invariant_of-self g c =
    let q = c.args.self.now in
    let rs = q.records.now in
    let ks = c.put_key.new.records in
    let ss = c.link.new.records in
    let w = c.put_key.ensures in
    let l = c.link.ensures in
    let i = c.requires.inside in
    let es = set_after (slots rs) (slots ks) (slots ss) q.used c.args.place w.slots l.slots in
    let ei = set_after (indexes rs) (indexes ks) (indexes ss) c.args.place q.used w.indexes l.indexes in
    let h = append_linked rs ss q.used c.args.place es ei (linked q) i.0 i.1 c.requires.new in
    record { within = omega (arith, h.within); small = omega (arith, h.small); named = λ k l. h.named k (omega arith); low = λ k l. h.low k (omega arith); back = λ k l. h.back k (omega arith) }
