use Rattle.bench.specs.Keys.{key_of}
use Rattle.bench.proofs.Columns.{column_same, column_set}
use Rattle.bench.proofs.Prices.{order_kept}
use Rattle.bench.proofs.changes.Bench+P.enqueue.Goals as goal

pub returns-clause-written : goal.returns-clause-written
returns-clause-written g c = λ _. column_set (λ r. r.key) (key_of g.P.PriceKind.value) c.args.self.now.records.now c.insert_or_rekey.new.self.records.now c.args.place c.args.key c.insert_or_rekey.ensures.enqueued.rekeyed.0

pub returns-clause-rest : goal.returns-clause-rest
returns-clause-rest g c =
    let v = g.P.PriceKind.value in
    let rs = c.args.self.now.records.now in
    let ss = c.insert_or_rekey.new.self.records.now in
    let k = c.insert_or_rekey.ensures.enqueued.rekeyed in
    (column_same (λ r. r.standing) v rs ss k.1, column_same (λ r. r.lookahead) v rs ss k.2)

pub returns-clause-order : goal.returns-clause-order
returns-clause-order g c =
    let q = c.args.self.now in
    let r = c.insert_or_rekey.new.self in
    order_kept g.P.PriceKind.value g.P.Ord.cmp g.met.P.Ord.total g.met.P.PriceKind.ordered q.records.now r.records.now q.used r.used c.insert_or_rekey.ensures.order
