-- A file that is not refused draws a lawful chart.
use Rattle.std.proofs.Common.{◌≡◌, ℕ, ◌+◌, ◌^◌, ◌<◌, true, List, length, get_or, None, sym, ap, ◌∙◌, subst, arith}
use Rattle.chart.specs.Lawful.{Lawful}
use Rattle.chart_file.specs.Checks.{at_link, estimate_holds, goal_is_zero, in_limits, lowest_failing, records_refusal, refuse, require}
use Rattle.chart_file.specs.File.{drawn, four_bytes, link_layout, link_record, link_records, place_layout, place_record, place_records, trailer_of}
use Rattle.chart_file.specs.Records.{estimate_of, keeps_estimate, keeps_rules, no_link, no_place, place_in}
use Rattle.chart_file.specs.Rules.{Rules}
use Rattle.chart_file.specs.declared.records.LinkRecord.{LinkRecord}
use Rattle.chart_file.specs.declared.records.PlaceRecord.{PlaceRecord}
use Rattle.chart_file.proofs.Lawful.{records_lawful}
use Rattle.chart_file.proofs.Limits.{both_none, required, unlinked, within}
use Rattle.chart_file.proofs.Lowest.{holds_at}
use Rattle.chart_file.proofs.Ruled.{ruled}
use Rattle.chart_file.proofs.Written.{counted, found}

module _ (file : List ℕ) (bytes : (i : ℕ) → get_or file i 0 < 256) where
  word : (at : ℕ) → four_bytes file at < 2 ^ 32
  word at = omega (arith, bytes at, bytes (at + 1), bytes (at + 2), bytes (at + 3))

  pub rules : in_limits (trailer_of file) (length file) ≡ true → records_refusal file ≡ None → Rules (trailer_of file).start (trailer_of file).goal (place_records file) (link_records file)
  rules h e =
      let t = trailer_of file in
      let w = within t (length file) h in
      let links = both_none (at_link 4 (lowest_failing (keeps_rules t.places) (link_records file))) _ e in
      let rest = both_none (require (goal_is_zero (place_record file t.goal)) (refuse 5 None)) (at_link 5 (lowest_failing (estimate_holds file) (link_records file))) links.1 in
      let kept = holds_at (keeps_rules t.places) (link_record file) t.links (unlinked 4 (lowest_failing (keeps_rules t.places) (link_records file)) links.0) in
      let fair = holds_at (estimate_holds file) (link_record file) t.links (unlinked 5 (lowest_failing (estimate_holds file) (link_records file)) rest.1) in
      record {
        places_few = omega (arith, counted place_layout file, w.few);
        start_in = omega (arith, counted place_layout file, w.start_in);
        goal_in = omega (arith, counted place_layout file, w.goal_in);
        links_few = omega (arith, counted link_layout file, w.links_few);
        small = λ p l.
            let q : p < t.places = omega (arith, counted place_layout file) in
            subst (λ (r : PlaceRecord). (r.lifts < 2 ^ 32) × (r.ms < 2 ^ 32)) (sym (found place_layout file no_place p q)) (word _, word _);
        ruled = λ n l.
            let q : n < t.links = omega (arith, counted link_layout file) in
            (λ i. keeps_rules (counted place_layout file i) (found link_layout file no_link n q i)) ∙ kept n q;
        goal_zero = ap goal_is_zero (found place_layout file no_place t.goal w.goal_in) ∙ required (goal_is_zero (place_record file t.goal)) (refuse 5 None) rest.0;
        estimated = λ n l.
            let q : n < t.links = omega (arith, counted link_layout file) in
            let law = ruled t.places (link_record file n) (kept n q) in
            ap (λ (r : LinkRecord). keeps_estimate (estimate_of (place_in (place_records file) r.from)) (estimate_of (place_in (place_records file) r.to)) r) (found link_layout file no_link n q)
            ∙ (λ i. keeps_estimate (estimate_of (found place_layout file no_place (link_record file n).from law.from_in i)) (estimate_of (found place_layout file no_place (link_record file n).to law.to_in i)) (link_record file n))
            ∙ fair n q;
      }

  pub drawn_lawful : in_limits (trailer_of file) (length file) ≡ true → records_refusal file ≡ None → Lawful (drawn file)
  drawn_lawful h e =
      records_lawful (trailer_of file).start (trailer_of file).goal (place_records file) (link_records file) (rules h e)
