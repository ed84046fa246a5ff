use Rattle.std.proofs.Common.{take, set, ◌∙◌}
use Rattle.chart_file.specs.File.{record_of}
use Rattle.chart_file.proofs.Written.{written_more}
use Rattle.chart_file.proofs.frame.Frame.write.Goals as goal

pub loop-n-preserved : goal.loop-n-preserved
loop-n-preserved g c =
    (λ i. set (c.loop-n.invariant i) c.loop-n.n (c.«record».ensures i))
    ∙ written_more (record_of g.R.Record.layout c.args.self.file.now) (take c.from-count.result c.args.memory.now) c.loop-n.n c.loop-n-test.true
