use Rattle.std.proofs.Common.{length, take, ap, ◌∙◌}
use Rattle.chart_file.specs.Checks.{file_refusal}
use Rattle.chart_file.specs.File.{link_layout}
use Rattle.chart_file.proofs.Written.{front, not_refused}
use Rattle.travel.specs.Survey.{open_count}
use Rattle.travel.proofs.survey.survey_into.Goals as goal

pub returns-clause-report : goal.returns-clause-report
returns-clause-report c =
    let file = c.args.file.now in
    let given = c.in_ok-trailer.ensures in
    let trailer = c.in_ok-trailer.trailer in
    let read = given.link_memory ∙ not_refused (file_refusal file (length c.args.places.now) (length c.args.links.now)) given.answer c.args.links.now _ in
    let links = front link_layout file trailer c.args.links.now c.read_chart.new.links given.whole read in
    let counted = c.count_open-open_links.ensures ∙ (λ i. open_count (take (c.from.ensures i) c.read_chart.new.links)) ∙ ap open_count links in
    λ i. record {
      places = (given.whole i).places;
      links = (given.whole i).links;
      open_links = counted i;
      start = (given.whole i).start;
      goal = (given.whole i).goal;
    }
