use Rattle.std.proofs.Common.{◌∙◌}
use Rattle.lattice_meaning.specs.Numbers.{number_at}
use Rattle.lattice.proofs.Ends.{lowest_of_four, next_least}
use Rattle.lattice.specs.Layouts.{number, shape}
use Rattle.lattice.specs.Lowest.{lower_of}
use Rattle.lattice.proofs.lattice.Lattice.next_at.Goals as goal

pub returns : goal.returns
returns c =
    let above = c.lower_of.ensures ∙ (λ i. lower_of (c.link_past-up.ensures i) (c.link_past-right.ensures i)) in
    let beside = c.lower_of-2.ensures ∙ (λ i. lower_of (above i) (c.link_past-down.ensures i)) in
    next_least c.args.end c.args.self.now c.args.place c.args.from c.lower_of-3.result
    (c.lower_of-3.ensures
    ∙ (λ i. lower_of (beside i) (c.link_past-left.ensures i))
    ∙ lowest_of_four c.args.from (λ d. number_at c.args.end (shape c.args.self.now.layout) c.args.self.now.link_count c.args.place (number d)))
