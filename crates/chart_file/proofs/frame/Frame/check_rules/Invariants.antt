use Rattle.std.proofs.Common.{◌≡◌, ℕ, ◌<◌, true}
use Rattle.chart_file.specs.File.{link_record}
use Rattle.chart_file.specs.Records.{keeps_rules}
use Rattle.chart_file.proofs.frame.Frame.check_rules.Given as goal

-- the links so far hold
abbrev pub invariant-loop-n : goal.invariant-loop-n
invariant-loop-n l = (k : ℕ) → k < l.n → keeps_rules l.self.trailer.places (link_record l.self.file.now k) ≡ true
