use Rattle.std.proofs.Common.{◌≡◌, ◌≤◌, length, take, sym, ap, subst, arith}
use Rattle.lattice_meaning.specs.Prices.{Counted, Priced, Unlinked, first_prices, lattice}
use Rattle.lattice_meaning.proofs.Limits.{not_refused}
use Rattle.lattice_meaning.proofs.Written.{first_ruled, written_front}
use Rattle.lattice.specs.Layouts.{shape}
use Rattle.lattice.proofs.lattice.Lattice.fill.Goals as goal

pub invariant_of-self : goal.invariant_of-self
invariant_of-self c =
    let s = shape c.args.grid.layout in
    let fit = not_refused s (length c.args.self.now.prices.now) c.requires in
    let rules = first_ruled s c.args.grid.within in
    let same : first_prices s ≡ take c.links-self.result c.write_first_prices.new.prices =
    sym (written_front s c.args.self.now.prices.now c.write_first_prices.new.prices c.links-self.result c.links-self.ensures c.write_first_prices.ensures) in
    let room : c.links-self.result ≤ length c.write_first_prices.new.prices = omega (arith, fit.1, c.write_first_prices.auto.prices) in
    record {
      within = c.args.grid.within;
      room = room;
      counted = subst (Counted s) same rules.counted;
      priced = subst (Priced s) same rules.priced;
      unlinked = subst (Unlinked s) same rules.unlinked;
    }

pub returns-clause-after : goal.returns-clause-after
returns-clause-after c =
    let s = shape c.args.grid.layout in
    ap (lattice s) (written_front s c.args.self.now.prices.now c.write_first_prices.new.prices c.links-self.result c.links-self.ensures c.write_first_prices.ensures)
