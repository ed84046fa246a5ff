use Rattle.std.proofs.Common.{sym, ◌∙◌}
use Rattle.std.proofs.lemmas.Result.{err_from_is_err_and}
use Rattle.travel.proofs.Roomy.{roomy}
use Rattle.travel.proofs.survey.survey.Goals as goal

pub returns-in_err-report : goal.returns-in_err-report
returns-in_err-report c =
    let same = roomy c.args.file.now _ _ (c.deref_mut.ensures.len ∙ c.in_ok-places.ensures.len)
    (c.deref_mut-2.ensures.len ∙ c.in_ok-links.ensures.len) c.if-file-gt-LONGEST_FILE.false in
    let p = err_from_is_err_and c.from_residual-in_err-report.result c.from_residual-in_err-report.ensures.1 in
    rw (p.1, p.2) (c.in_err-report.ensures.answer ∙ same)

pub returns : goal.returns
returns c =
    let same = roomy c.args.file.now _ _ (c.deref_mut.ensures.len ∙ c.in_ok-places.ensures.len)
    (c.deref_mut-2.ensures.len ∙ c.in_ok-links.ensures.len) c.if-file-gt-LONGEST_FILE.false in
    (sym (c.in_ok-report.ensures.answer ∙ same), c.in_ok-report.ensures.report)
