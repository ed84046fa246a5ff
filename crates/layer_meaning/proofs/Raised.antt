-- Heights, and prices set through a layer.
use Rattle.std.proofs.Common.{◌≡◌, ℕ, ◌≤◌, true, false, eqb, Some, None, Option, sym, refl, ◌∙◌, arith}
use Rattle.std.proofs.lemmas.Bool.{ne_eqb}
use Rattle.rows.specs.Rows.{Kind, Price, less, linkable}
use Rattle.chart.specs.Lawful.{LawfulLink}
use Rattle.chart.specs.Meaning.{Link, Meaning, priced}
use Rattle.chart.specs.Refusals.{Refusal, refusal, unless}
use Rattle.layer_meaning.specs.Heights.{above}

pub above_low : (h : ℕ) → above h ≤ 255
above_low h = omega arith

pub above_more : (h : ℕ) → h ≤ 255 → h ≤ above h
above_more h low = omega arith

-- a layer's height is never that of a link that is free
pub above_marks : (h : ℕ) → eqb (above h) 0 ≡ false
above_marks h = ne_eqb (above h) 0 (λ e. omega arith)

-- a link of a chart, at a price that it may have and with a mark of a higher chart, is one of that chart
pub relinked : (k : Kind) (count low high : ℕ) (l : Link) (p : Price) (mark : ℕ) →
    less p l.floor ≡ false → linkable k p ≡ true → mark ≤ high → LawfulLink k count low l →
    LawfulLink k count high (record { from = l.from; to = l.to; floor = l.floor; price = p; held = mark })
relinked k count low high l p mark above fits le law = record {
  from_in = law.from_in;
  to_in = law.to_in;
  apart = law.apart;
  floor_open = law.floor_open;
  floor_above = law.floor_above;
  floor_fits = law.floor_fits;
  price_above = above;
  price_fits = fits;
  held_by = le;
}

unless_mapped : (F : Meaning → Meaning) (r : Option Refusal) (a b : Meaning) → F (unless r a b) ≡ unless r (F a) (F b)
unless_mapped F None a b = refl
unless_mapped F (Some r) a b = refl

-- a layer that refuses what is refused below, and keeps a price that is set, stands after a price as its own would
pub set_through : (F : Meaning → Meaning) (m : Meaning) (n : ℕ) (p : Price) →
    (refusal (F m) n p ≡ refusal m n p) × (F (priced m n p) ≡ priced (F m) n p) →
    F (unless (refusal m n p) m (priced m n p)) ≡ unless (refusal (F m) n p) (F m) (priced (F m) n p)
set_through F m n p same =
    unless_mapped F (refusal m n p) m (priced m n p) ∙
    (λ i. unless (sym same.0 i) (F m) (same.1 i))
