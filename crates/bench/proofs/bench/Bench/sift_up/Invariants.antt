use Rattle.std.proofs.Common.{◌≤◌}
use Rattle.bench.specs.Changes.{HeapedBut, Reordered}
use Rattle.bench.proofs.bench.Bench.sift_up.Given as goal

abbrev pub invariant-loop-at : goal.invariant-loop-at
invariant-loop-at g l = record {
  slot : l.«at» ≤ l.from;
  reordered : Reordered l.initial.self l.self;
  gap : HeapedBut g.K.Ord.cmp l.initial.self l.from → HeapedBut g.K.Ord.cmp l.self l.«at»;
}

abbrev pub decreases-loop-at : goal.decreases-loop-at
decreases-loop-at g l = l.«at»
