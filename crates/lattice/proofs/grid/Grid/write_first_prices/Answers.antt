use Rattle.std.proofs.Common.{◌≡◌, ◌++◌, take, drop, set, ◌∙◌, arith}
use Rattle.std.proofs.lemmas.List.{length-take-le}
use Rattle.lattice_meaning.specs.Shape.{link_count}
use Rattle.lattice_meaning.proofs.Written.{written_all, written_more}
use Rattle.lattice.specs.Layouts.{shape}
use Rattle.lattice.proofs.grid.Grid.write_first_prices.Goals as goal

pub loop-link-preserved : goal.loop-link-preserved
loop-link-preserved c =
    (λ i. set (c.loop-link.invariant i) c.loop-link.link (c.first_price.ensures i))
    ∙ written_more (shape c.args.self.layout) (take c.from.result c.args.prices.now) c.loop-link.link c.loop-link-test.true

pub returns : goal.returns
returns c =
    let count : c.from.result ≡ link_count (shape c.args.self.layout) = c.from.ensures ∙ c.links.ensures in
    let long = length-take-le c.from.result c.args.prices.now (omega arith) in
    let all = written_all (shape c.args.self.layout) (take c.from.result c.args.prices.now) c.loop-link.first c.loop-link.link (omega arith) (omega arith) c.loop-link.invariant in
    (λ i. all i ++ drop (count i) c.args.prices.now)
