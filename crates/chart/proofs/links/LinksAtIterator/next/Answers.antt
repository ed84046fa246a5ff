use Rattle.std.proofs.Common.{rules, ◌+◌, ◌<◌, length, arith}
use Rattle.chart.proofs.Rising.{next_none, next_some}
use Rattle.chart.specs.Questions.{leads_at, numbers_left}
use Rattle.chart.proofs.links.LinksAtIterator.next.Goals as goal

pub returns-in_err-number-clause-steps : goal.returns-in_err-number-clause-steps
returns-in_err-number-clause-steps g c =
    let s = c.args.self.now in
    let none = next_none (leads_at s.end s.place) (g.C.Chart.meaning s.chart.now).links s.from (rw c.in_err-number.was at c.next_link.ensures) in
    search (rules, none)

pub returns-clause-steps : goal.returns-clause-steps
returns-clause-steps g c =
    let s = c.args.self.now in
    next_some (leads_at s.end s.place) (g.C.Chart.meaning s.chart.now).links s.from c.in_ok-number.number (rw c.in_ok-number.was at c.next_link.ensures)

pub returns-clause-goes : goal.returns-clause-goes
returns-clause-goes g c =
    let s = c.args.self.now in
    let m = g.C.Chart.meaning s.chart.now in
    let shorter : length (numbers_left s.end m s.place (c.in_ok-number.number + 1)) < length (numbers_left s.end m s.place s.from) =
    rw (returns-clause-steps g c) (omega arith) in
    record { on = λ _. (tt, tt, shorter); keeps = tt; rests = λ _. tt }
