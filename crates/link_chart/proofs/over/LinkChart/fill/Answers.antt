use Rattle.std.proofs.Common.{ℕ, ◌<◌, get_or, refl, arith}
use Rattle.link_chart.proofs.Filled.{all_filled}
use Rattle.link_chart.proofs.over.LinkChart.fill.Goals as goal

pub invariant_of-self : goal.invariant_of-self
invariant_of-self c =
    let file = c.args.file.now in
    let byte : (i : ℕ) → get_or file i 0 < 256 = λ i. omega (arith, c.type_inv.file i) in
    let all = all_filled file byte c.args.trailer c.args.self.now.places.now _ c.args.self.now.links.now _ c.requires.passed c.requires.accepted
    c.copy_records.ensures c.copy_records-2.ensures in
    record { place_room = all.place_room; link_room = all.link_room; rules = all.rules }

pub returns : goal.returns
returns c =
    let file = c.args.file.now in
    let byte : (i : ℕ) → get_or file i 0 < 256 = λ i. omega (arith, c.type_inv.file i) in
    let all = all_filled file byte c.args.trailer c.args.self.now.places.now _ c.args.self.now.links.now _ c.requires.passed c.requires.accepted
    c.copy_records.ensures c.copy_records-2.ensures in
    record { after = all.drawn; place_memory = all.place_memory; link_memory = all.link_memory; lender = (refl, refl) }
