use Rattle.bench.proofs.Leaves.{left_gap, left_out}
use Rattle.bench.proofs.Moves.{dequeued_then}
use Rattle.bench.proofs.bench.Bench.remove.Goals as goal

pub returns-then-slot-last-clause-dequeued : goal.returns-then-slot-last-clause-dequeued
returns-then-slot-last-clause-dequeued g c =
    let q = c.args.self.now in
    let x = c.leave_out_last.new.self in
    let s = c.slot_of-slot in
    let e = c.swap.ensures in
    let l = c.leave_out_last.ensures in
    dequeued_then q x c.restore.new.self c.args.place
    (left_out q c.swap.new.self x e.reordered s.result c.args.place s.ensures c.requires e.exchanged l.lender l.records l.used) c.restore.ensures.reordered

pub returns-then-slot-last-clause-order : goal.returns-then-slot-last-clause-order
returns-then-slot-last-clause-order g c = λ heap.
    let s = c.slot_of-slot in
    let e = c.swap.ensures in
    let l = c.leave_out_last.ensures in
    c.restore.ensures.order (left_gap c.args.self.now c.swap.new.self c.leave_out_last.new.self e.reordered s.result c.args.place s.ensures c.requires e.exchanged l.lender l.records l.used
    g.K.Ord.cmp g.met.K.Ord.total c.if-slot-last.true heap)

pub returns-else-slot-last-clause-dequeued : goal.returns-else-slot-last-clause-dequeued
returns-else-slot-last-clause-dequeued g c =
    let s = c.slot_of-slot in
    let e = c.swap.ensures in
    let l = c.leave_out_last.ensures in
    left_out c.args.self.now c.swap.new.self c.leave_out_last.new.self e.reordered s.result c.args.place s.ensures c.requires e.exchanged l.lender l.records l.used
