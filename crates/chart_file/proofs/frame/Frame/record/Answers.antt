use Rattle.std.proofs.Common.{length}
use Rattle.chart_file.proofs.Limits.{lies_inside}
use Rattle.chart_file.proofs.frame.Frame.record.Goals as goal

pub read-requires : goal.read-requires
read-requires g c =
    let t = c.args.self.trailer in
    rw (c.offset.ensures, c.SIZE.ensures, c.from.ensures)
    (lies_inside t (length c.args.self.file.now) (g.R.Record.layout.offset t) g.R.Record.SIZE (g.R.Record.layout.count t) c.args.n
    c.args.self.within (g.met.R.Record.inside t) c.requires)
