use Rattle.std.proofs.Common.{◌≡◌, ℕ, List, get_or, take, set, sym, ap, ◌∙◌, subst, arith}
use Rattle.chart_file.specs.Records.{no_link, records_mean}
use Rattle.chart_file.specs.declared.records.LinkRecord.{LinkRecord}
use Rattle.link_chart.specs.Drawn.{place_records}
use Rattle.link_chart.specs.Repriced.{repriced}
use Rattle.link_chart.proofs.Repricing.{Kept, inside, kept, priced_after}
use Rattle.link_chart.proofs.over.LinkChart.reprice.Goals as goal
use Rattle.price.specs.Kinds.{lift_value}
use Rattle.rows.specs.Rows.{Price}

-- the memory as the code wrote it
written : (ls : List LinkRecord) (n i : ℕ) (p : Price) (r : LinkRecord) → i ≡ n → r ≡ repriced (get_or ls i no_link) p →
    set ls i r ≡ set ls n (repriced (get_or ls n no_link) p)
written ls n i p r e h = λ k. set ls (e k) ((h ∙ ap (λ (m : ℕ). repriced (get_or ls m no_link) p) e) k)

pub bounds-self-n : goal.bounds-self-n
bounds-self-n c =
    let chart = c.args.self.now in
    let l = inside chart.links.now chart.link_count c.args.link chart.link_room (lift_value c.args.price) c.requires in
    omega (arith, l, chart.link_room, c.from-n.ensures)

pub invariant_of-self : goal.invariant_of-self
invariant_of-self c =
    let chart = c.args.self.now in
    let e = written chart.links.now c.args.link c.from-n.result (lift_value c.args.price) c.with_price.result c.from-n.ensures c.with_price.ensures in
    let K = subst (Kept chart.start chart.goal (place_records chart) chart.link_count) (sym e)
    (kept chart.start chart.goal (place_records chart) chart.links.now chart.link_count c.args.link chart.link_room c.args.price c.requires chart.rules) in
    record { place_room = chart.place_room; link_room = K.room; rules = K.rules }

pub returns : goal.returns
returns c =
    let chart = c.args.self.now in
    let e = written chart.links.now c.args.link c.from-n.result (lift_value c.args.price) c.with_price.result c.from-n.ensures c.with_price.ensures in
    ap (λ (ks : List LinkRecord). records_mean chart.start chart.goal (place_records chart) (take chart.link_count ks)) e
    ∙ priced_after chart.start chart.goal (place_records chart) chart.links.now chart.link_count c.args.link chart.link_room c.args.price c.requires chart.rules
