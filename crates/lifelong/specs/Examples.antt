-- Worked examples, as one table, and a chart that meets the laws.
use Rattle.std.specs.Prelude.{◌≡◌, ℕ, true, List, [], ◌∷◌, length, replicate, Some, Option}
use Rattle.rows.specs.Rows.{Price, closed, is_open, less, open_at}
use Rattle.chart.specs.Lawful.{Lawful}
use Rattle.chart.specs.Meaning.{Meaning, places, priced}
use Rattle.chart.specs.Refusals.{Refusal, refusal}
use Rattle.chart.specs.Routes.{TrueDistance}
use Rattle.lifelong.specs.Standings.{lookahead, standing_at}
use Rattle.lifelong.specs.Step.{next, settled, step}
use Rattle.lifelong.specs.Run.{repair}
use Rattle.lifelong.specs.Trace.{Traced, none, shows, trace}
use Rattle.lifelong.specs.Bounds.{Bounds}
use Rattle.lifelong.specs.Charts.{at_once, beside, guarded, ms, swapped, three}

-- all standings closed
abbrev pub fresh : Meaning → List Price
fresh m = replicate (places m) closed

-- the standings that a repair leaves
abbrev pub repaired : Meaning → List Price → List Price
repaired m gs = (repair m gs).left

-- a chart and standings, and of the repair from them: the goal's standing, how many steps it takes, and what a trace
-- then answers
pub record Row : Type 0 where
  pub chart : Meaning
  pub standings : List Price
  pub distance : Price
  pub steps : ℕ
  pub answer : Traced

-- a row of the table
abbrev pub row : Meaning → List Price → Price → ℕ → Traced → Row
row m gs p n t = record { chart = m; standings = gs; distance = p; steps = n; answer = t }

-- what a row claims is so
pub record Holds (r : Row) : Type 0 where
  pub distance : standing_at (repaired r.chart r.standings) r.chart.goal ≡ r.distance
  pub steps : length (repair r.chart r.standings).steps ≡ r.steps
  pub answer : trace r.chart (repaired r.chart r.standings) ≡ r.answer

-- every row holds
abbrev pub AllHold : List Row → Type 0
AllHold [] = Unit {0}
AllHold (r ∷ rs) = Holds r × AllHold rs

-- three places with link 1 closed
abbrev pub without_1 : Meaning
without_1 = priced three 1 closed

-- the table
abbrev pub table : List Row
table =
    -- repaired, then with link 1 closed, then with link 2 closed too
    row three (fresh three) (ms 7) 3 (shows (0 ∷ 1 ∷ 2 ∷ []))
    ∷ row without_1 (repaired three (fresh three)) (ms 9) 2 (shows (0 ∷ 2 ∷ []))
    ∷ row (priced without_1 2 closed) (repaired without_1 (repaired three (fresh three))) closed 1 none
    -- repaired again, and with a price changed and set back
    ∷ row three (repaired three (fresh three)) (ms 7) 0 (shows (0 ∷ 1 ∷ 2 ∷ []))
    ∷ row (priced without_1 1 (ms 3)) (repaired three (fresh three)) (ms 7) 0 (shows (0 ∷ 1 ∷ 2 ∷ []))
    ∷ row swapped (fresh swapped) (ms 7) 3 (shows (2 ∷ 1 ∷ 0 ∷ []))
    ∷ row guarded (fresh guarded) closed 2 none
    ∷ row at_once (fresh at_once) (ms 0) 1 (shows (0 ∷ []))
    ∷ row beside (fresh beside) (open_at (5 ∷ [])) 2 (shows (0 ∷ 1 ∷ []))
    ∷ row (priced beside 1 closed) (repaired beside (fresh beside)) closed 1 none
    ∷ []

-- the refusal with a number, of link n, at a height
abbrev pub refused_by : ℕ → ℕ → ℕ → Option Refusal
refused_by number n height = Some (record { by = number; link = Some n; height = height })

-- prices that are refused: of a held link, below the floor, of no link
pub record Refused : Type 0 where
  pub held : refusal guarded 1 (ms 3) ≡ refused_by 7 1 1
  pub low : refusal beside 1 (open_at (4 ∷ [])) ≡ refused_by 8 1 0
  pub unnamed : refusal beside 0 (open_at (5 ∷ [])) ≡ refused_by 6 0 0

-- one chart, and standings, that meet every premise of the theorems
pub record PremisesMet : Type 0 where
  pub lawful : Lawful three
  pub bounds : Bounds three (fresh three)
  pub steps : next three (fresh three) ≡ Some 0
  pub steps_again : next three (step three (fresh three) 0) ≡ Some 1
  pub lowers : less (lookahead three (fresh three) 0) (standing_at (fresh three) 0) ≡ true
  pub settles : settled three (repaired three (fresh three)) ≡ true
  pub shows_route : is_open (standing_at (repaired three (fresh three)) 2) ≡ true
  pub true_standing : TrueDistance three 0 (standing_at (repaired three (fresh three)) 0)
