use Rattle.std.proofs.Common.{ℕ, ◌<◌, length, get_or, sym, ap, ◌∙◌, arith}
use Rattle.chart_file.specs.Checks.{in_limits}
use Rattle.chart_file.specs.File.{link_layout, place_layout}
use Rattle.chart_file.specs.Records.{records_mean}
use Rattle.chart_file.specs.declared.trailer.Trailer.{Trailer}
use Rattle.chart_file.proofs.Drawn.{drawn_lawful}
use Rattle.chart_file.proofs.Written.{front}
use Rattle.chart_file.proofs.read.read_chart.Goals as goal

pub returns-clause-meaning : goal.returns-clause-meaning
returns-clause-meaning c =
    let whole = c.in_ok-frame.ensures.passed.whole in
    let places = front place_layout c.args.file.now c.in_ok-frame.frame.trailer c.args.places.now c.write.new.memory whole (rw c.in_ok-frame.ensures.of_file at c.write.ensures) in
    let links = front link_layout c.args.file.now c.in_ok-frame.frame.trailer c.args.links.now c.write-2.new.memory whole (rw c.in_ok-frame.ensures.of_file at c.write-2.ensures) in
    λ i. records_mean (whole i).start (whole i).goal (places i) (links i)

pub returns-clause-lawful : goal.returns-clause-lawful
returns-clause-lawful c =
    let file = c.args.file.now in
    let passed = c.in_ok-frame.ensures.passed in
    let byte : (i : ℕ) → get_or file i 0 < 256 = λ i. omega (arith, c.type_inv.file i) in
    drawn_lawful file byte (sym (ap (λ (u : Trailer). in_limits u (length file)) passed.whole) ∙ passed.within) passed.records
