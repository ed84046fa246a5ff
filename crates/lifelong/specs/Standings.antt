-- Standings, lookaheads, uneven places and their keys. Standings are a list, one for each place; the list may be
-- longer than the chart has places, and what lies past them is never read.
use Rattle.std.specs.Prelude.{ℕ, Bool, cond, ◌||◌, List, Some, None, Option, ◌==◌, slice_index_or}
use Rattle.rows.specs.Rows.{Kind, Price, closed, less, smaller, sum, zero_of}
use Rattle.rows.specs.Keys.{Key}
use Rattle.chart.specs.Meaning.{Link, Meaning, estimate_at}
use Rattle.chart.specs.Questions.{leads_into}
use Rattle.chart.specs.Routes.{least_over}

-- standing: the g-value of a place
abbrev pub standing_at : List Price → ℕ → Price
standing_at gs p = slice_index_or gs p closed

-- the cost of coming over a link: the standing of its from place plus its price
abbrev pub through : Kind → List Price → Option Link → Price
through k gs None = closed
through k gs (Some l) = sum k (standing_at gs l.from) l.price

-- lookahead: the rhs-value of a place. Zero at the start, elsewhere the smallest cost of the links into it
unfoldable pub lookahead : Meaning → List Price → ℕ → Price
lookahead m gs p = cond (p == m.start) (zero_of m.kind) (least_over (leads_into p) (through m.kind gs) m.links)

-- one is below the other
abbrev pub differ : Price → Price → Bool
differ a b = less a b || less b a

-- uneven: locally inconsistent. Standing and lookahead differ
unfoldable pub uneven : Meaning → List Price → ℕ → Bool
uneven m gs p = differ (standing_at gs p) (lookahead m gs p)

-- the key of a place whose smaller price is s
abbrev pub key_for : Meaning → ℕ → Price → Key
key_for m p s = record { whole = sum m.kind s (estimate_at m p); own = s }

-- key: the priority of a place, (s + estimate, s), where s is the smaller of standing and lookahead
unfoldable pub key : Meaning → List Price → ℕ → Key
key m gs p = key_for m p (smaller (standing_at gs p) (lookahead m gs p))
