-- What a guard makes of the chart below it.
use Rattle.std.specs.Prelude.{ℕ, Bool, false, cond, ◌||◌, List, [], ◌∷◌, map, Some, None, Option, ◌==◌}
use Rattle.rows.specs.Rows.{closed}
use Rattle.chart.specs.Meaning.{Link, Meaning}
use Rattle.layer_meaning.specs.Heights.{above}

-- does the place stand among these?
abbrev pub is_among : List ℕ → ℕ → Bool
is_among [] p = false
is_among (q ∷ qs) p = q == p || is_among qs p

-- is there a link, and does an end of it stand among these places?
abbrev pub touched : List ℕ → Option Link → Bool
touched ps None = false
touched ps (Some l) = is_among ps l.from || is_among ps l.to

-- the link closed, and held at a height
abbrev pub held_at : ℕ → Option Link → Option Link
held_at h None = None
held_at h (Some l) = Some (record { from = l.from; to = l.to; floor = l.floor; price = closed; held = h })

-- a link with an end among these places is held at a height, any other is as it was
abbrev pub guarded_link : List ℕ → ℕ → Option Link → Option Link
guarded_link ps h l = cond (touched ps l) (held_at h l) l

-- one higher, with each link that has a listed end held at that height; all else as below
abbrev pub guarded : List ℕ → Meaning → Meaning
guarded ps m = record {
  kind = m.kind;
  start = m.start;
  goal = m.goal;
  height = above m.height;
  links = map (guarded_link ps (above m.height)) m.links;
  estimates = m.estimates;
}
