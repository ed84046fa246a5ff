use Rattle.std.proofs.Common.{arith}
use Rattle.bench.proofs.bench.Bench.leave_out_last.Goals as goal

pub invariant_of-self : goal.invariant_of-self
invariant_of-self g c =
    let q = c.args.self.now in
    let w = q.within in
    let s = q.small in
    record { within = omega arith; small = omega arith; named = λ k l. q.named k (omega arith); low = λ k l. q.low k (omega arith); back = λ k l. q.back k (omega arith) }
