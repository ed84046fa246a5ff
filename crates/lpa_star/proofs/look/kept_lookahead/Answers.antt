use Rattle.std.proofs.Common.{ap, ◌∙◌}
use Rattle.rows.specs.Rows.{closed}
use Rattle.bench.specs.Contents.{lookaheads}
use Rattle.lpa_star.proofs.Columns.{read_or}
use Rattle.lpa_star.proofs.look.kept_lookahead.Goals as goal

pub returns : goal.returns
returns g c =
    let v = g.P.PriceKind.value in
    ap v c.unwrap_or.ensures ∙ read_or v c.lookahead.result c.closed.result (lookaheads v c.args.bench.now) c.args.place closed c.lookahead.ensures c.closed.ensures
