-- How far a change reaches: why it is enough to look again at the to places of the links concerned (UpdateVertex).
use Rattle.std.specs.Prelude.{◌≡◌, ℕ, ◌<◌, false, List, Some, ◌≢◌}
use Rattle.rows.specs.Rows.{Price, closed}
use Rattle.chart.specs.Lawful.{Lawful}
use Rattle.chart.specs.Meaning.{Link, Meaning, link_at, places, priced}
use Rattle.chart.specs.Questions.{leads_into}
use Rattle.lifelong.specs.Standings.{lookahead, standing_at}

-- no link leads from p to q
abbrev pub NoLink : Meaning → ℕ → ℕ → Type 0
NoLink m p q = (n : ℕ) (l : Link) → link_at m n ≡ Some l → l.from ≡ p → l.to ≢ q

-- where only the standing of p differs, so do only lookaheads of places to which a link leads from p
abbrev pub StandingReaches : Type 0
StandingReaches = (m : Meaning) (gs hs : List Price) (p : ℕ) → ((q : ℕ) → (q ≢ p) → standing_at hs q ≡ standing_at gs q) →
    (q : ℕ) → NoLink m p q → lookahead m hs q ≡ lookahead m gs q

-- another price for a link changes no lookahead but that of its to place
abbrev pub PriceReaches : Type 0
PriceReaches = (m : Meaning) (gs : List Price) (n : ℕ) (p : Price) (q : ℕ) → leads_into q (link_at m n) ≡ false →
    lookahead (priced m n p) gs q ≡ lookahead m gs q

-- over closed standings every lookahead but the start's is closed
abbrev pub ClosedAhead : Type 0
ClosedAhead = (m : Meaning) → Lawful m → (gs : List Price) → ((p : ℕ) → p < places m → standing_at gs p ≡ closed) →
    (q : ℕ) → (q ≢ m.start) → lookahead m gs q ≡ closed
