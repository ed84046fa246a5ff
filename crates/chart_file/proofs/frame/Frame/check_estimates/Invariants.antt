use Rattle.std.proofs.Common.{◌≡◌, ℕ, ◌<◌, true}
use Rattle.chart_file.specs.File.{link_record}
use Rattle.chart_file.specs.Checks.{estimate_holds}
use Rattle.chart_file.proofs.frame.Frame.check_estimates.Given as goal

-- the links so far hold
abbrev pub invariant-loop-n : goal.invariant-loop-n
invariant-loop-n l = (k : ℕ) → k < l.n → estimate_holds l.self.file.now (link_record l.self.file.now k) ≡ true
