-- The bounds: when they hold, and what they give.
use Rattle.std.proofs.Common.{sym, subst}
use Rattle.rows.specs.Rows.{smaller}
use Rattle.chart.specs.Limits.{Within}
use Rattle.chart.proofs.Limits.{uncapped_estimate, uncapped_link, estimate_open, link_law, price_within}
use Rattle.lifelong.specs.Standings.{key, lookahead, standing_at}
use Rattle.lifelong.specs.Bounds.{ClosedWithin, KeysOpen, PricedWithin, SumsOpen}
use Rattle.lifelong.proofs.Lookaheads.{own_within}

pub closed_within : ClosedWithin
closed_within m gs long h = record { long = long; low = λ p l. subst (Within m.kind 4095) (sym (h p l)) tt }

pub priced_within : PricedWithin
priced_within m gs n p b = record { long = b.long; low = b.low }

pub sums_open : SumsOpen
sums_open m law gs b n l e s p = uncapped_link m law (standing_at gs l.from) l.price (b.low l.from (link_law m law n l e).from_in)
    (price_within m law n l e) s p

pub keys_open : KeysOpen
unfolding key
keys_open m law gs b p l o = uncapped_estimate m law (smaller (standing_at gs p) (lookahead m gs p)) p l (own_within m law gs b p l) o (estimate_open m law p l)
