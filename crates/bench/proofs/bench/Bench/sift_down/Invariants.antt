use Rattle.std.proofs.Common.{◌-◌, ◌<◌}
use Rattle.bench.specs.Changes.{HeapedBut, Reordered}
use Rattle.bench.specs.Order.{before_by}
use Rattle.bench.specs.Sorted.{UnderAt}
use Rattle.bench.proofs.bench.Bench.sift_down.Given as goal

abbrev pub invariant-loop-child : goal.invariant-loop-child
invariant-loop-child g l = record {
  slot : l.«at» < l.self.used;
  reordered : Reordered l.initial.self l.self;
  gap : HeapedBut g.K.Ord.cmp l.initial.self l.from → UnderAt (before_by g.K.Ord.cmp) l.initial.self.records.now l.from
      → HeapedBut g.K.Ord.cmp l.self l.«at» × UnderAt (before_by g.K.Ord.cmp) l.self.records.now l.«at»;
}

abbrev pub decreases-loop-child : goal.decreases-loop-child
decreases-loop-child g l = l.self.used - l.«at»
