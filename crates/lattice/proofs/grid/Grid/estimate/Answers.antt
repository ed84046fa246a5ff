use Rattle.std.proofs.Common.{◌≡◌, ℕ, ◌*◌, Some, sym, ap, ◌∙◌, arith}
use Rattle.lattice_meaning.specs.Prices.{distance, time}
use Rattle.lattice_meaning.proofs.Limits.{limits}
use Rattle.lattice_meaning.proofs.Steps.{estimate_most}
use Rattle.lattice_meaning.proofs.Table.{estimate_nth, estimate_past}
use Rattle.lattice.specs.Layouts.{shape}
use Rattle.lattice.proofs.grid.Grid.estimate.Goals as goal

pub returns-then-place-places : goal.returns-then-place-places
returns-then-place-places c = sym (estimate_past (shape c.args.self.layout) c.args.place (omega arith))

-- an estimate has 32 bits
pub overflow_mul-ms : goal.overflow_mul-ms
overflow_mul-ms c =
    let s = shape c.args.self.layout in
    let same : s.least * c.from.result ≡ s.least * distance s c.args.place = ap (λ (n : ℕ). s.least * n) (c.from.ensures ∙ c.distance.ensures) in
    let most = estimate_most s (limits s c.args.self.within) c.args.place (omega arith) in
    omega arith

pub returns : goal.returns
returns c =
    let s = shape c.args.self.layout in
    ap (λ (n : ℕ). Some (time n)) (c.into.ensures ∙ ap (λ (n : ℕ). s.least * n) (c.from.ensures ∙ c.distance.ensures))
    ∙ sym (estimate_nth s c.args.place (omega arith))
