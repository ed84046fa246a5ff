-- What the layers keep of the chart below them, and what they change.
use Rattle.std.specs.Prelude.{◌≡◌, ℕ, true, false, List, Some}
use Rattle.rows.specs.Rows.{Price}
use Rattle.chart.specs.Lawful.{Lawful}
use Rattle.chart.specs.Meaning.{Meaning, link_at, priced}
use Rattle.chart.specs.Questions.{into, out_of}
use Rattle.chart.specs.Refusals.{refusal}
use Rattle.layer_meaning.specs.Guarded.{guarded, guarded_link, held_at, touched}
use Rattle.layer_meaning.specs.Heights.{above}
use Rattle.layer_meaning.specs.Returned.{returned, reversed}

-- a guard over a lawful chart is lawful, whatever places it lists
abbrev pub GuardLawful : Type 0
GuardLawful = (ps : List ℕ) (m : Meaning) → Lawful m → Lawful (guarded ps m)

-- a return over a lawful chart is lawful
abbrev pub ReturnLawful : Type 0
ReturnLawful = (m : Meaning) → Lawful m → Lawful (returned m)

-- under each number a guard has the link below, held where it has a listed end
abbrev pub GuardLinks : Type 0
GuardLinks = (ps : List ℕ) (m : Meaning) (n : ℕ) → link_at (guarded ps m) n ≡ guarded_link ps (above m.height) (link_at m n)

-- the same links lead into a place as below
abbrev pub GuardInto : Type 0
GuardInto = (ps : List ℕ) (m : Meaning) (p : ℕ) → into (guarded ps m) p ≡ into m p

-- and out of it
abbrev pub GuardOut : Type 0
GuardOut = (ps : List ℕ) (m : Meaning) (p : ℕ) → out_of (guarded ps m) p ≡ out_of m p

-- under each number a return has the link below, the other way round
abbrev pub ReturnLinks : Type 0
ReturnLinks = (m : Meaning) (n : ℕ) → link_at (returned m) n ≡ reversed (link_at m n)

-- the links into a place are those that lead out of it below
abbrev pub ReturnInto : Type 0
ReturnInto = (m : Meaning) (p : ℕ) → into (returned m) p ≡ out_of m p

-- and those out of it lead into it below
abbrev pub ReturnOut : Type 0
ReturnOut = (m : Meaning) (p : ℕ) → out_of (returned m) p ≡ into m p

-- a guard refuses a price for a link with a listed end by 7 at its own height
abbrev pub GuardRefuses : Type 0
GuardRefuses = (ps : List ℕ) (m : Meaning) (n : ℕ) (p : Price) → touched ps (link_at m n) ≡ true →
    refusal (guarded ps m) n p ≡ Some (record { by = 7; link = Some n; height = above m.height })

-- for any other link it refuses what the chart below refuses, and the price is set as it is below
abbrev pub GuardHandsOn : Type 0
GuardHandsOn = (ps : List ℕ) (m : Meaning) (n : ℕ) (p : Price) → touched ps (link_at m n) ≡ false →
    (refusal (guarded ps m) n p ≡ refusal m n p) × (guarded ps (priced m n p) ≡ priced (guarded ps m) n p)

-- a return refuses what the chart below refuses, at whatever height that is, and a price is set as it is below
abbrev pub ReturnHandsOn : Type 0
ReturnHandsOn = (m : Meaning) (n : ℕ) (p : Price) →
    (refusal (returned m) n p ≡ refusal m n p) × (returned (priced m n p) ≡ priced (returned m) n p)

-- a link that a guard over another holds bears the upper one's height, whether or not the lower one holds it
abbrev pub UpperHolds : Type 0
UpperHolds = (ps qs : List ℕ) (m : Meaning) (n : ℕ) → touched ps (link_at m n) ≡ true →
    link_at (guarded ps (guarded qs m)) n ≡ held_at (above (above m.height)) (link_at m n)
