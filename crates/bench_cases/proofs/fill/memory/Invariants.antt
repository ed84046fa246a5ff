use Rattle.std.proofs.Common.{◌≡◌, vec_len}
use Rattle.bench_cases.proofs.fill.memory.Given as goal

abbrev pub invariant-loop-p : goal.invariant-loop-p
invariant-loop-p g l = vec_len l.records ≡ l.p
