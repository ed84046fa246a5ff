-- Memory that a file was copied into keeps the rules.
use Rattle.std.proofs.Common.{◌≡◌, ℕ, ◌<◌, ◌≤◌, eqb, leb, List, [], ◌∷◌, length, get_or, take, drop, None, sym, ap, ◌∙◌, subst, arith}
use Rattle.std.proofs.lemmas.List.{length-append}
use Rattle.std.proofs.lemmas.Bool.{cond-false, le-leb, ne_eqb}
use Rattle.chart_file.proofs.Drawn.{rules}
use Rattle.chart_file.proofs.Limits.{both_none, within}
use Rattle.chart_file.proofs.Written.{counted, front, not_refused}
use Rattle.chart_file.specs.Checks.{Passed, copied, file_refusal, in_limits, or_else, refuse, require, trailer_refusal}
use Rattle.chart_file.specs.File.{Layout, drawn, filled, link_layout, link_records, place_layout, place_records, records_of, trailer_of}
use Rattle.chart_file.specs.Records.{no_place, records_mean}
use Rattle.chart_file.specs.Rules.{Rules}
use Rattle.chart_file.specs.declared.records.LinkRecord.{LinkRecord}
use Rattle.chart_file.specs.declared.records.PlaceRecord.{PlaceRecord}
use Rattle.chart_file.specs.declared.trailer.Trailer.{Trailer}
use Rattle.link_chart.specs.Places.{places_of}

-- one memory, where the trailer is not refused and there is room
module _ {A : Type 0} (l : Layout A) (file : List ℕ) (t : Trailer) (whole : t ≡ trailer_of file) (trailed : trailer_refusal file ≡ None)
    (before after : List A) (room : l.count t ≤ length before) (copy : after ≡ copied l file before) where
  same : l.count t ≡ l.count (trailer_of file)
  same = ap (λ (u : Trailer). l.count u) whole

  filled_after : after ≡ filled l file before
  filled_after =
      let fits : l.count (trailer_of file) ≤ length before = omega (arith, same, room) in
      copy ∙ not_refused (or_else (trailer_refusal file) (require (leb (l.count (trailer_of file)) (length before)) (refuse 9 None)))
      (sym (λ i. or_else (trailed i) (require (le-leb (l.count (trailer_of file)) (length before) fits i) (refuse 9 None))))
      before (filled l file before)

  front_after : take (l.count t) after ≡ records_of l file
  front_after = front l file t before after whole filled_after

  room_after : l.count t ≤ length after
  room_after =
      let e = ap length filled_after ∙ length-append (records_of l file) (drop (l.count (trailer_of file)) before) in
      omega (arith, e, counted l file, same)

-- a chart over two memories that a file was copied into
pub record Filled (file : List ℕ) (t : Trailer) (ps qs : List PlaceRecord) (ls ks : List LinkRecord) : Type 0 where
  pub place_memory : qs ≡ filled place_layout file ps
  pub link_memory : ks ≡ filled link_layout file ls
  pub place_room : t.places ≤ length qs
  pub link_room : t.links ≤ length ks
  pub rules : Rules t.start t.goal (places_of t.places qs) (take t.links ks)
  pub drawn : records_mean t.start t.goal (places_of t.places qs) (take t.links ks) ≡ drawn file

module _ (file : List ℕ) (byte : (i : ℕ) → get_or file i 0 < 256) (t : Trailer)
    (ps qs : List PlaceRecord) (ls ks : List LinkRecord) (passed : Passed file (length ps) (length ls) t)
    (accepted : None ≡ file_refusal file (length ps) (length ls))
    (place_copy : qs ≡ copied place_layout file ps)
    (link_copy : ks ≡ copied link_layout file ls) where
  trailed : trailer_refusal file ≡ None
  trailed = (both_none (trailer_refusal file) _ (sym accepted)).0

  places_after : qs ≡ filled place_layout file ps
  places_after = filled_after place_layout file t passed.whole trailed ps qs passed.places_fit place_copy

  links_after : ks ≡ filled link_layout file ls
  links_after = filled_after link_layout file t passed.whole trailed ls ks passed.links_fit link_copy

  places_are_drawn : places_of t.places qs ≡ place_records file
  places_are_drawn =
      let w = within t (length file) passed.within in
      cond-false (eqb t.places 0) (no_place ∷ []) (take t.places qs) (ne_eqb t.places 0 (λ e. omega (arith, w.some)))
      ∙ front_after place_layout file t passed.whole trailed ps qs passed.places_fit place_copy

  links_are_drawn : take t.links ks ≡ link_records file
  links_are_drawn = front_after link_layout file t passed.whole trailed ls ks passed.links_fit link_copy

  means_drawn : records_mean t.start t.goal (places_of t.places qs) (take t.links ks) ≡ drawn file
  means_drawn = λ i. records_mean (passed.whole i).start (passed.whole i).goal (places_are_drawn i) (links_are_drawn i)

  rules_after : Rules t.start t.goal (places_of t.places qs) (take t.links ks)
  rules_after =
      let limits = sym (ap (λ (u : Trailer). in_limits u (length file)) passed.whole) ∙ passed.within in
      let drawn_rules = rules file byte limits passed.records in
      subst (λ (u : Trailer). Rules u.start u.goal (places_of t.places qs) (take t.links ks)) (sym passed.whole)
      (subst (λ (r : List LinkRecord). Rules (trailer_of file).start (trailer_of file).goal (places_of t.places qs) r) (sym links_are_drawn)
      (subst (λ (p : List PlaceRecord). Rules (trailer_of file).start (trailer_of file).goal p (link_records file)) (sym places_are_drawn) drawn_rules))

  pub all_filled : Filled file t ps qs ls ks
  all_filled = record {
    place_memory = places_after;
    link_memory = links_after;
    place_room = room_after place_layout file t passed.whole trailed ps qs passed.places_fit place_copy;
    link_room = room_after link_layout file t passed.whole trailed ls ks passed.links_fit link_copy;
    rules = rules_after;
    drawn = means_drawn;
  }
