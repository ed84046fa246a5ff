use Rattle.std.proofs.Common.{◌<◌, arith}
use Rattle.bench.proofs.Moves.{reordered_again}
use Rattle.bench.proofs.Sifts.{step_up}
use Rattle.bench.proofs.bench.Bench.sift_up.Goals as goal

pub loop-at-preserved : goal.loop-at-preserved
loop-at-preserved g c =
    let l = c.loop-at in
    let i = l.invariant in
    let is = c.parent-up.ensures in
    let up = c.parent-up.result in
    let lt : l.at < l.self.used = omega (arith, i.reordered.used) in
    record {
      slot = omega arith;
      reordered = reordered_again c.args.self.now l.self c.swap.new.self i.reordered c.swap.ensures.reordered;
      gap = λ h. step_up g.K.Ord.cmp g.met.K.Ord.total l.self c.swap.new.self c.swap.ensures.reordered up l.at c.swap.ensures.exchanged is (omega arith) lt (i.gap h);
    }
