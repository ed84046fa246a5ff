use Rattle.std.proofs.Common.{◌≡◌, ℕ, ◌≤◌}
use Rattle.bench.specs.Contents.{SameLender, Sorted, Waits, lookaheads, past, standings}
use Rattle.lpa_star.specs.Closing.{closed_first}
use Rattle.lpa_star.proofs.beginning.close_all.Given as goal

abbrev pub invariant-loop-place : goal.invariant-loop-place
invariant-loop-place g l =
    let v = g.C.Price.PriceKind.value in
    let a = l.initial.bench in
    let b = l.bench in
    SameLender l.initial.bench l.bench
    × (standings v b ≡ closed_first l.place (standings v a))
    × (lookaheads v b ≡ closed_first l.place (lookaheads v a))
    × ((q : ℕ) → Waits b q → ⊥)
    × Sorted v b
    × ((n : ℕ) → l.place ≤ n → past n b ≡ past n a)
