-- A link record that keeps its rules is a lawful link.
use Rattle.std.proofs.Common.{◌≡◌, ℕ, ◌<◌, Bool, true, not, ◌&&◌, eqb, ltb, List, None, refl, arith}
use Rattle.std.proofs.lemmas.Bool.{and_parts, eqb-false, ltb-true, not-true}
use Rattle.rows.specs.Rows.{less, linkable, zero_of}
use Rattle.price.specs.Kinds.{lift_kind}
use Rattle.chart.specs.Lawful.{LawfulLink}
use Rattle.chart_file.specs.Checks.{lowest_failing}
use Rattle.chart_file.specs.File.{link_record, link_records, trailer_of}
use Rattle.chart_file.specs.Records.{floor_of, keeps_rules, link_of, price_of}
use Rattle.chart_file.specs.declared.records.LinkRecord.{LinkRecord}
use Rattle.chart_file.proofs.Lowest.{holds_at}

three : (a b c : Bool) → (a && b && c) ≡ true → (a ≡ true) × (b ≡ true) × (c ≡ true)
three a b c h = let p = and_parts (a && b) c h in let q = and_parts a b p.0 in (q.0, q.1, p.1)

pub ruled : (places : ℕ) (l : LinkRecord) → keeps_rules places l ≡ true → LawfulLink lift_kind places 0 (link_of l)
ruled places l h =
    let parts = three (ltb l.from places && ltb l.to places && not (eqb l.from l.to))
    (less (zero_of lift_kind) (floor_of l) && linkable lift_kind (floor_of l))
    (linkable lift_kind (price_of l) && not (less (price_of l) (floor_of l))) h in
    let ends = three (ltb l.from places) (ltb l.to places) (not (eqb l.from l.to)) parts.0 in
    let floor = and_parts (less (zero_of lift_kind) (floor_of l)) (linkable lift_kind (floor_of l)) parts.1 in
    let price = and_parts (linkable lift_kind (price_of l)) (not (less (price_of l) (floor_of l))) parts.2 in
    record {
      from_in = ltb-true l.from places ends.0;
      to_in = ltb-true l.to places ends.1;
      apart = eqb-false l.from l.to (not-true (eqb l.from l.to) ends.2);
      floor_open = refl;
      floor_above = floor.0;
      floor_fits = floor.1;
      price_above = not-true (less (price_of l) (floor_of l)) price.1;
      price_fits = price.0;
      held_by = omega arith;
    }

-- where no record breaks its rules, each link of the file is lawful
pub each_ruled : (file : List ℕ) (places : ℕ) → lowest_failing (keeps_rules places) (link_records file) ≡ None →
    (n : ℕ) → n < (trailer_of file).links → LawfulLink lift_kind places 0 (link_of (link_record file n))
each_ruled file places e n l = ruled places (link_record file n)
    (holds_at (keeps_rules places) (link_record file) (trailer_of file).links e n l)
