use Rattle.bench.proofs.Sifts.{left_child, only_child, right_child}
use Rattle.bench.proofs.bench.Bench.first_child.Goals as goal
use Rattle.bench.proofs.bench.Bench.first_child.Goals.{else-right-self-via-then-right-self+else-comes_before, else-right-self-via-else-right-self}

pub returns-then-comes_before-clause-first : goal.returns-then-comes_before-clause-first
returns-then-comes_before-clause-first g c = right_child g.K.Ord.cmp g.met.K.Ord.total c.args.self.now.records.now c.args.at c.args.self.now.used c.if-comes_before.ensures

pub returns-clause-first : goal.returns-clause-first
returns-clause-first g c = let q = c.args.self.now in elim c.else-right-self.branch [
  | else-right-self-via-then-right-self+else-comes_before w ↦ left_child g.K.Ord.cmp g.met.K.Ord.total q.records.now c.args.at q.used w.if-comes_before.ensures
  | else-right-self-via-else-right-self w ↦ only_child g.K.Ord.cmp g.met.K.Ord.total q.records.now c.args.at q.used w.if-right-self.false
]
