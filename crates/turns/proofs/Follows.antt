-- The state that follows a turn, by what 10 and 9 say of it.
use Rattle.std.proofs.Common.{◌≡◌, true, false, ◌&&◌, Some, None, ap, ◌∙◌}
use Rattle.std.proofs.lemmas.Bool.{and_from, and_left, and_right, cond-false, cond-true}
use Rattle.lpa_star.specs.Memory.{Memory}
use Rattle.turns.specs.History.{Entry, following, no_reason, passes, takes_bench}
use Rattle.turns.specs.State.{State, showing}
use Rattle.turns.specs.Turns.{Answer, Reason, Turn, precheck}

module _ (b : State) (d : Memory) (u : Turn) (a : Answer) (t : State) where
  abbrev pub entry : Entry
  entry = record { before = b; shown = d; turn = u; answer = a; after = t }

  pub stays : (r : Reason) → precheck (showing d b) u ≡ Some r → t ≡ showing d b → following entry ≡ b
  stays r e s =
      cond-false (takes_bench u && passes (showing d b) u) t (showing b.bench t)
      (and_right (takes_bench u) (passes (showing d b) u) (ap no_reason e))
      ∙ ap (showing b.bench) s

  pub goes_on : takes_bench u ≡ true → precheck (showing d b) u ≡ None → following entry ≡ t
  goes_on k e = cond-true (takes_bench u && passes (showing d b) u) t (showing b.bench t)
      (and_from (takes_bench u) (passes (showing d b) u) k (ap no_reason e))

  pub keeps_bench : takes_bench u ≡ false → following entry ≡ showing b.bench t
  keeps_bench k = cond-false (takes_bench u && passes (showing d b) u) t (showing b.bench t)
      (and_left (takes_bench u) (passes (showing d b) u) k)
