use Rattle.std.proofs.Common.{ℕ, List, sym, ap, ◌∙◌}
use Rattle.std.specs.List.{slice_get}
use Rattle.layer_meaning.proofs.Guarding.{numbers_guarded}
use Rattle.layers.proofs.guard.GuardChart.nth_link.Goals as goal

pub returns : goal.returns
returns g c =
    c.nth_link.ensures
    ∙ ap (λ (ns : List ℕ). slice_get ns c.args.n) (sym (numbers_guarded c.args.self.now.listed.items (g.C.Chart.meaning c.args.self.now.chart) c.args.end c.args.place))
