-- What the calls return, as answers of turns, and what a refused turn hands back.
use Rattle.std.specs.Prelude.{◌≡◌, ℕ, ◌≤◌, List, length, take, drop, Ok, Err, Result}
use Rattle.rows.specs.Rows.{Price}
use Rattle.turns.specs.Turns.{Answer, Turn, end_firm, end_loose, ends, gives_loose, refused, repairs, sets, shows}
use Rattle.planner.specs.Faults.{told}
use Rattle.planner.specs.declared.fault.Fault.{Fault}
use Rattle.planner.specs.declared.parts.Firm.{Firm}
use Rattle.planner.specs.declared.parts.Loose.{Loose}
use Rattle.planner.specs.declared.parts.Refused.{Refused}
use Rattle.planner.specs.declared.parts.Repaired.{Repaired}
use Rattle.planner.specs.declared.parts.Ticket.{Ticket}
use Rattle.planner.specs.declared.parts.Ticket.TheVariants as ticket

abbrev pub begun : Result Loose Fault → Answer
begun (Ok k) = gives_loose k.number
begun (Err f) = refused (told f)

abbrev pub priced : Result Unit Fault → Answer
priced (Ok k) = sets
priced (Err f) = refused (told f)

abbrev pub repaired : {P : Type 0} → (P → Price) → Result (Repaired P) (Refused Loose) → Answer
repaired v (Ok k) = repairs k.ticket.number (v k.distance) k.steps
repaired v (Err f) = refused (told f.fault)

-- the places that are shown stand in the buffer
abbrev pub traced : Result ℕ Fault → List ℕ → Answer
traced (Ok n) out = shows n (take n out)
traced (Err f) out = refused (told f)

abbrev pub reopened : Result Loose (Refused Firm) → Answer
reopened (Ok k) = gives_loose k.number
reopened (Err f) = refused (told f.fault)

abbrev pub ended : Result Unit (Refused Ticket) → Answer
ended (Ok k) = ends
ended (Err f) = refused (told f.fault)

-- the turn that ends with a ticket
abbrev pub end_with : Ticket → Turn
end_with (ticket.Loose k) = end_loose k.number
end_with (ticket.Firm k) = end_firm k.number

-- a refused turn hands the same ticket back
abbrev pub HandsBack : {A T : Type 0} → T → Result A (Refused T) → Type 0
HandsBack t (Ok x) = Unit {0}
HandsBack t (Err f) = f.ticket ≡ t

-- a trace writes the places that it shows and no more; a refused one writes nothing
abbrev pub WritesOnly : Result ℕ Fault → List ℕ → List ℕ → Type 0
WritesOnly (Ok n) before after = (n ≤ length before) × (drop n after ≡ drop n before)
WritesOnly (Err f) before after = after ≡ before
