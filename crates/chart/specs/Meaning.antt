-- What a chart means, whatever it is made of. Two charts mean the same when all of this is equal.
use Rattle.std.specs.Prelude.{ℕ, List, length, Some, None, Option, slice_index_or, slice_set}
use Rattle.rows.specs.Rows.{Kind, Price, closed}

-- link: an edge. Its floor is the least price that it may be set to; its held mark is 0, or the height of the
-- layer that holds it.
pub record Link : Type 0 where
  pub from : ℕ
  pub to : ℕ
  pub floor : Price
  pub price : Price
  pub held : ℕ

-- places (vertices) are numbered from 0, and each has an estimate (heuristic) of its distance to the goal;
-- a link number names one link or none
pub record Meaning : Type 0 where
  pub kind : Kind
  pub start : ℕ
  pub goal : ℕ
  pub height : ℕ
  pub links : List (Option Link)
  pub estimates : List Price

abbrev pub places : Meaning → ℕ
places m = length m.estimates

-- the link that a number names, if it names one
abbrev pub link_at : Meaning → ℕ → Option Link
link_at m n = slice_index_or m.links n None

-- the estimate of a place; there is none outside, where this is closed
abbrev pub estimate_at : Meaning → ℕ → Price
estimate_at m p = slice_index_or m.estimates p closed

abbrev pub with_price : Price → Option Link → Option Link
with_price p None = None
with_price p (Some l) = Some (record { from = l.from; to = l.to; floor = l.floor; price = p; held = l.held })

-- the same chart, but for the price of one link
abbrev pub priced : Meaning → ℕ → Price → Meaning
priced m n p = record {
  kind = m.kind;
  start = m.start;
  goal = m.goal;
  height = m.height;
  links = slice_set m.links n (with_price p (link_at m n));
  estimates = m.estimates;
}
