use Rattle.std.proofs.Common.{Some, sym, ap, ◌∙◌, arith, below_more}
use Rattle.chart_file.specs.Checks.{at_link}
use Rattle.chart_file.specs.File.{link_record, trailer_of}
use Rattle.chart_file.specs.Records.{keeps_rules}
use Rattle.chart_file.specs.declared.trailer.Trailer.{Trailer}
use Rattle.chart_file.proofs.Lowest.{fails_first, fails_nowhere}
use Rattle.chart_file.proofs.frame.Frame.check_rules.Goals as goal

pub returns-then-not-keeps_rules : goal.returns-then-not-keeps_rules
returns-then-not-keeps_rules c =
    let links = ap (λ (t : Trailer). t.links) c.args.self.whole in
    ap Some c.at_link.ensures
    ∙ ap (at_link 4) (fails_first (keeps_rules c.args.self.trailer.places) (link_record c.args.self.file.now) (trailer_of c.args.self.file.now).links
    c.loop-n.n (omega arith) c.loop-n.invariant
    (ap (keeps_rules c.args.self.trailer.places) (sym c.record-link.ensures) ∙ sym c.keeps_rules.ensures ∙ c.if-not-keeps_rules.true))

pub loop-n-preserved : goal.loop-n-preserved
loop-n-preserved c = below_more _ _ c.loop-n.invariant
    (ap (keeps_rules c.args.self.trailer.places) (sym c.record-link.ensures) ∙ sym c.keeps_rules.ensures ∙ c.if-not-keeps_rules.false)

pub returns : goal.returns
returns c =
    let links = ap (λ (t : Trailer). t.links) c.args.self.whole in
    ap (at_link 4) (fails_nowhere (keeps_rules c.args.self.trailer.places) (link_record c.args.self.file.now) (trailer_of c.args.self.file.now).links
    (λ k lt. c.loop-n.invariant k (omega arith)))
