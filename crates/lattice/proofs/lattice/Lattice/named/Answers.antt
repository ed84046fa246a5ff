use Rattle.std.proofs.Common.{◌≡◌, ℕ, get_or, Some, None, sym, ap, ◌∙◌, arith}
use Rattle.std.proofs.lemmas.List.{get_or-take}
use Rattle.std.specs.Option.{option_map}
use Rattle.chart.specs.Questions.{answered}
use Rattle.price.specs.Kinds.{time_value}
use Rattle.lattice_meaning.specs.Prices.{price_of, time}
use Rattle.lattice_meaning.specs.Shape.{leads_from, leads_to}
use Rattle.lattice_meaning.proofs.Table.{link_past, named_is}
use Rattle.lattice.proofs.InUse.{numbers_long}
use Rattle.lattice.specs.Drawn.{numbers_of}
use Rattle.lattice.specs.Layouts.{shape}
use Rattle.lattice.specs.declared.layout.Layout.{Layout}
use Rattle.lattice.proofs.lattice.Lattice.named.Goals as goal

pub returns-then-number-self : goal.returns-then-number-self
returns-then-number-self c =
    let l = c.args.self.now in
    sym (link_past (shape l.layout) (numbers_of l) c.args.number (omega (arith, numbers_long l)))

pub returns-in_err-to : goal.returns-in_err-to
returns-in_err-to c =
    let l = c.args.self.now in
    ap (option_map (answered time_value)) c.from_residual.ensures
    ∙ named_is (shape l.layout) (numbers_of l) c.args.number None (omega (arith, numbers_long l))
    (sym c.in_err-to.was ∙ c.leads_to.ensures ∙ ap (λ (g : Layout). leads_to (shape g) c.args.number) c.grid.ensures)

pub returns : goal.returns
returns c =
    let l = c.args.self.now in
    let same : time_value c.price_of.result ≡ price_of (get_or (numbers_of l) c.args.number 0) =
    c.price_of.ensures ∙ ap (λ (n : ℕ). price_of (get_or l.prices.now n 0)) c.from.ensures
    ∙ sym (ap price_of (get_or-take l.link_count l.prices.now c.args.number 0 c.if-number-self.false)) in
    (λ i. Some (record { from = leads_from c.args.number; to = c.in_ok-to.to; floor = time (c.into.ensures i); price = same i; held = 0 }))
    ∙ named_is (shape l.layout) (numbers_of l) c.args.number (Some c.in_ok-to.to) (omega (arith, numbers_long l))
    (sym c.in_ok-to.was ∙ c.leads_to.ensures ∙ ap (λ (g : Layout). leads_to (shape g) c.args.number) c.grid.ensures)
