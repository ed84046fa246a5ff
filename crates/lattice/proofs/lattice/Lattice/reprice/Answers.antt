use Rattle.std.proofs.Common.{◌≡◌, ℕ, ◌<◌, ◌≤◌, length, take, set, None, sym, ap, ◌∙◌, subst, arith}
use lib.Seq.{take-set-lt}
use Rattle.rows.specs.Rows.{Price}
use Rattle.chart.specs.Refusals.{refusal}
use Rattle.std.proofs.lemmas.List.{length-set}
use Rattle.price.specs.Kinds.{time_value}
use Rattle.lattice_meaning.specs.Prices.{Counted, Priced, Unlinked, lattice, number_of}
use Rattle.lattice_meaning.proofs.Accepted.{Repriced, accepted, repriced}
use Rattle.lattice_meaning.proofs.Limits.{limits}
use Rattle.lattice.proofs.InUse.{numbers_long}
use Rattle.lattice.specs.Drawn.{chart_of, numbers_of}
use Rattle.lattice.specs.Layouts.{shape}
use Rattle.lattice.specs.declared.lattice.Lattice.{Lattice}
use Rattle.lattice.proofs.lattice.Lattice.reprice.Goals as goal

module _ (l : Lattice) (n : ℕ) (p : Price) (e : refusal (chart_of l) n p ≡ None) where
  in_table : n < l.link_count
  in_table = omega (arith, (accepted (shape l.layout) (numbers_of l) n p e).in_table, numbers_long l)

  after : Repriced (shape l.layout) (numbers_of l) n p
  after = repriced (shape l.layout) (numbers_of l) n p (limits (shape l.layout) l.within).step l.counted l.priced l.unlinked e

  -- the numbers in use after the write
  written : (m v : ℕ) → m ≡ n → v ≡ number_of p → set (numbers_of l) n (number_of p) ≡ take l.link_count (set l.prices.now m v)
  written m v at is = sym ((λ i. take l.link_count (set l.prices.now (at i) (is i)))
      ∙ take-set-lt l.link_count l.prices.now n (number_of p) in_table)

pub bounds-self-from : goal.bounds-self-from
bounds-self-from c = omega (arith, in_table c.args.self.now c.args.link (time_value c.args.price) c.requires, c.args.self.now.room)

pub invariant_of-self : goal.invariant_of-self
invariant_of-self c =
    let l = c.args.self.now in
    let s = shape l.layout in
    let p = time_value c.args.price in
    let rules = after l c.args.link p c.requires in
    let same = written l c.args.link p c.requires c.from.result c.number_of.result c.from.ensures c.number_of.ensures in
    let room : l.link_count ≤ length (set l.prices.now c.from.result c.number_of.result) =
    omega (arith, l.room, length-set l.prices.now c.from.result c.number_of.result) in
    record {
      within = l.within;
      room = room;
      counted = subst (Counted s) same rules.counted;
      priced = subst (Priced s) same rules.in_range;
      unlinked = subst (Unlinked s) same rules.unlinked;
    }

pub returns-clause-after : goal.returns-clause-after
returns-clause-after c =
    let l = c.args.self.now in
    let p = time_value c.args.price in
    sym (ap (lattice (shape l.layout)) (written l c.args.link p c.requires c.from.result c.number_of.result c.from.ensures c.number_of.ensures))
    ∙ (after l c.args.link p c.requires).means
