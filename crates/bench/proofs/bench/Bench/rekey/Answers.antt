use Rattle.std.proofs.Common.{refl}
use Rattle.bench.proofs.Links.{linked, relinked, requeued}
use Rattle.bench.proofs.Moves.{enqueued_then}
use Rattle.bench.proofs.Past.{key_past}
use Rattle.bench.proofs.Sifts.{rekeys}
use Rattle.bench.proofs.bench.Bench.rekey.Goals as goal

pub invariant_of-self : goal.invariant_of-self
invariant_of-self g c =
    let q = c.args.self.now in
    let w = c.put_key.ensures in
    let h = relinked q.records.now c.put_key.new.records w.slots w.indexes q.used (linked q) in
    record { within = h.within; small = h.small; named = h.named; low = h.low; back = h.back }

pub returns-clause-enqueued : goal.returns-clause-enqueued
returns-clause-enqueued g c =
    let q = c.args.self.now in
    let w = c.put_key.ensures in
    let s = requeued q.records.now c.put_key.new.records w.slots w.indexes q.used in
    let p = c.args.place in
    enqueued_then q _ c.restore.new.self p c.args.key (record {
      lender = (refl, (refl, c.put_key.auto.records));
      holds = (s p).0 c.requires;
      others = λ x u. s x;
      rekeyed = w.rekeyed;
      past = λ n l b. key_past q.records.now c.put_key.new.records n p c.args.key w.rekeyed l w.slots w.indexes;
    }) c.restore.ensures.reordered

pub returns-clause-order : goal.returns-clause-order
returns-clause-order g c = λ o.
    let q = c.args.self.now in
    let w = c.put_key.ensures in
    let p = c.args.place in
    c.restore.ensures.order (rekeys g.K.Ord.cmp g.met.K.Ord.total q.records.now c.put_key.new.records q.used p c.args.key w.rekeyed.0 (linked q) w.slots c.slot_of-slot.result c.slot_of-slot.ensures c.requires o)
