use Rattle.std.proofs.Common.{◌≡◌, ◌++◌, map, drop}
use Rattle.std.specs.List.{range_with_len}
use Rattle.chart_file.specs.File.{record_of}
use Rattle.chart_file.proofs.frame.Frame.write.Given as goal

-- the records so far, then the memory as it was
abbrev pub invariant-loop-n : goal.invariant-loop-n
invariant-loop-n g l = l.first ≡ map (record_of g.R.Record.layout l.self.file.now) (range_with_len 0 l.n) ++ drop l.n l.initial.first
