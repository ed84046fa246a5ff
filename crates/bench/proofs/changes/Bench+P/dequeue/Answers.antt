use Rattle.bench.specs.Keys.{key_of}
use Rattle.bench.proofs.Columns.{column_same}
use Rattle.bench.proofs.Prices.{order_kept}
use Rattle.bench.proofs.changes.Bench+P.dequeue.Goals as goal

pub returns-clause-rest : goal.returns-clause-rest
returns-clause-rest g c =
    let v = g.P.PriceKind.value in
    let rs = c.args.self.now.records.now in
    let ss = c.remove.new.self.records.now in
    let k = c.remove.ensures.dequeued.kept in
    (column_same (λ r. r.standing) v rs ss k.1, (column_same (λ r. r.lookahead) v rs ss k.2, column_same (λ r. r.key) (key_of v) rs ss k.0))

pub returns-clause-order : goal.returns-clause-order
returns-clause-order g c =
    let q = c.args.self.now in
    let r = c.remove.new.self in
    order_kept g.P.PriceKind.value g.P.Ord.cmp g.met.P.Ord.total g.met.P.PriceKind.ordered q.records.now r.records.now q.used r.used c.remove.ensures.order
