-- The charts of the worked examples.
use Rattle.std.specs.Prelude.{ℕ, [], ◌∷◌, Some, None, Option}
use Rattle.rows.specs.Rows.{Price, closed, open_at}
use Rattle.price.specs.Kinds.{lift_kind, time_kind}
use Rattle.chart.specs.Meaning.{Link, Meaning}

-- no lifts, and so many milliseconds
abbrev pub ms : ℕ → Price
ms n = open_at (0 ∷ n ∷ [])

-- a link from a to b with a floor of one millisecond
abbrev pub link : ℕ → ℕ → Price → ℕ → Option Link
link a b p held = Some (record { from = a; to = b; floor = ms 1; price = p; held = held })

-- three places, 0 to 1 to 2 and straight from 0 to 2, with estimates of zero
abbrev pub three : Meaning
three = record {
  kind = lift_kind;
  start = 0;
  goal = 2;
  height = 0;
  links = link 0 1 (ms 4) 0 ∷ link 1 2 (ms 3) 0 ∷ link 0 2 (ms 9) 0 ∷ [];
  estimates = ms 0 ∷ ms 0 ∷ ms 0 ∷ [];
}

-- the same with all ends swapped, one higher
abbrev pub swapped : Meaning
swapped = record {
  kind = lift_kind;
  start = 2;
  goal = 0;
  height = 1;
  links = link 1 0 (ms 4) 0 ∷ link 2 1 (ms 3) 0 ∷ link 2 0 (ms 9) 0 ∷ [];
  estimates = ms 0 ∷ ms 0 ∷ ms 0 ∷ [];
}

-- the same with the links at place 2 closed and held, one higher
abbrev pub guarded : Meaning
guarded = record {
  kind = lift_kind;
  start = 0;
  goal = 2;
  height = 1;
  links = link 0 1 (ms 4) 0 ∷ link 1 2 closed 1 ∷ link 0 2 closed 1 ∷ [];
  estimates = ms 0 ∷ ms 0 ∷ ms 0 ∷ [];
}

-- start and goal in one place
abbrev pub at_once : Meaning
at_once = record { kind = lift_kind; start = 0; goal = 0; height = 0; links = three.links; estimates = three.estimates }

-- a link from a to b with floor and price 5
abbrev pub five : ℕ → ℕ → Option Link
five a b = Some (record { from = a; to = b; floor = open_at (5 ∷ []); price = open_at (5 ∷ []); held = 0 })

-- two cells side by side with a least step of 5: link 1 leads right from cell 0, link 7 left from cell 1
abbrev pub beside : Meaning
beside = record {
  kind = time_kind;
  start = 0;
  goal = 1;
  height = 0;
  links = None ∷ five 0 1 ∷ None ∷ None ∷ None ∷ None ∷ None ∷ five 1 0 ∷ [];
  estimates = open_at (5 ∷ []) ∷ open_at (0 ∷ []) ∷ [];
}
