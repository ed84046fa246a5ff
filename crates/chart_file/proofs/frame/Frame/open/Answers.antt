use Rattle.std.proofs.Common.{◌≡◌, Bool, true, false, cond, List, ℕ, length, Ok, Some, None, Option, sym, ap, ◌∙◌}
use Rattle.std.specs.Option.{ok_or}
use Rattle.chart.specs.declared.fault.ChartFault.{ChartFault}
use Rattle.chart_file.specs.Checks.{in_limits, or_else, refuse, require, trailer_refusal}
use Rattle.chart_file.specs.File.{is_chart, trailer_of}
use Rattle.chart_file.specs.declared.trailer.Trailer.{Trailer}
use Rattle.chart_file.proofs.frame.Frame.open.Goals as goal

-- a trailer that is there, outside the limits
outside : (file : List ℕ) (t : Trailer) (f : ChartFault) → Ok t ≡ ok_or (cond (is_chart file) (Some (trailer_of file)) None) f →
    in_limits t (length file) ≡ false → Some (refuse 2 None) ≡ trailer_refusal file
outside file t f e h = go (is_chart file) e
  where
    go : (b : Bool) → Ok t ≡ ok_or (cond b (Some (trailer_of file)) None) f →
        Some (refuse 2 None) ≡ or_else (require b (refuse 1 None)) (require (in_limits (trailer_of file) (length file)) (refuse 2 None))
    go true e =
        let same : t ≡ trailer_of file = cc in
        ap (λ (b : Bool). require b (refuse 2 None)) (sym h ∙ ap (λ (u : Trailer). in_limits u (length file)) same)
    go false e = cc

pub returns-then-not-is_within-clause-answer : goal.returns-then-not-is_within-clause-answer
returns-then-not-is_within-clause-answer c =
    ap Some c.of_chart-then-not-is_within.ensures
    ∙ outside c.args.file.now c.in_ok-trailer.trailer c.of_chart.result
    (c.in_ok-trailer.ensures.value ∙ ap (λ (o : Option Trailer). ok_or o c.of_chart.result) c.read.ensures)
    (sym c.is_within.ensures ∙ c.if-not-is_within.true)
