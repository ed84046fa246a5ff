use Rattle.std.proofs.Common.{arith}
use Rattle.bench.proofs.Moves.{reordered_again}
use Rattle.bench.proofs.Sifts.{sinks_rest, step_down, step_under}
use Rattle.bench.proofs.bench.Bench.sift_down.Goals as goal

pub returns-then-not-comes_before-clause-order : goal.returns-then-not-comes_before-clause-order
returns-then-not-comes_before-clause-order g c = λ gap under.
    let l = c.loop-child in
    let t = l.invariant.gap gap under in
    sinks_rest g.K.Ord.cmp g.met.K.Ord.total l.self.records.now l.at l.self.used c.in-Some.child c.if-not-comes_before.ensures c.in-Some.ensures.first t.0 t.1

pub loop-child-preserved : goal.loop-child-preserved
loop-child-preserved g c =
    let l = c.loop-child in
    let i = l.invariant in
    let k = c.in-Some.child in
    let e = c.in-Some.ensures in
    let x = c.swap.ensures.exchanged in
    let m = c.swap.ensures.reordered in
    let q = l.self in
    let r = c.swap.new.self in
    record {
      slot = omega (arith, e.child.0, m.used);
      reordered = reordered_again c.args.self.now q r i.reordered m;
      gap = λ gap under. let t = i.gap gap under in (
        step_down g.K.Ord.cmp g.met.K.Ord.total q r m l.at k x e.child.1 i.slot e.child.0 e.first t.0,
        step_under g.K.Ord.cmp g.met.K.Ord.total q r m l.at k x e.child.1 i.slot e.child.0 c.if-not-comes_before.ensures,
      );
    }
