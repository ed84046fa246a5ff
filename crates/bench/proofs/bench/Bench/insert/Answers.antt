use Rattle.bench.proofs.Appends.{append_gap, appended}
use Rattle.bench.proofs.Moves.{enqueued_then}
use Rattle.bench.proofs.bench.Bench.insert.Goals as goal

pub returns-clause-enqueued : goal.returns-clause-enqueued
returns-clause-enqueued g c =
    let q = c.args.self.now in
    let x = c.append.new.self in
    let e = c.append.ensures in
    let i = c.requires.inside in
    enqueued_then q x c.restore.new.self c.args.place c.args.key
    (appended q x c.args.place c.args.key e.slots e.lender e.used e.rekeyed e.indexes i.0 i.1 c.requires.new) c.restore.ensures.reordered

pub returns-clause-order : goal.returns-clause-order
returns-clause-order g c = λ heap.
    let e = c.append.ensures in
    c.restore.ensures.order (append_gap c.args.self.now c.append.new.self c.args.place c.args.key e.slots e.lender e.used e.rekeyed g.K.Ord.cmp g.met.K.Ord.total c.requires.new heap)
