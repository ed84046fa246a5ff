use Rattle.std.proofs.Common.{ℕ, List, sym, ap, ◌∙◌}
use Rattle.std.specs.List.{slice_get}
use Rattle.layer_meaning.proofs.Returning.{numbers_returned}
use Rattle.layers.proofs.back.ReturnChart.nth_link.Goals as goal

pub returns : goal.returns
returns g c =
    rw c.opposite.ensures at c.nth_link.ensures
    ∙ ap (λ (ns : List ℕ). slice_get ns c.args.n) (sym (numbers_returned (g.C.Chart.meaning c.args.self.now.chart) c.args.end c.args.place))
