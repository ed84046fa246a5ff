-- A file that the program reads has room in the program's memory.
use Rattle.std.proofs.Common.{◌≡◌, ℕ, ◌≤◌, Bool, leb, List, length, Some, None, Option, sym, refl, ap, ◌∙◌, arith}
use Rattle.std.proofs.lemmas.Bool.{and_from, le-leb}
use Rattle.chart.specs.Refusals.{Refusal}
use Rattle.chart_file.specs.Checks.{file_refusal, in_limits, or_else, records_refusal, refuse, require, room_refusal, trailer_refusal}
use Rattle.chart_file.specs.File.{is_chart, trailer_of}
use Rattle.chart_file.proofs.Limits.{both_none, required, within}
use Rattle.travel.specs.Survey.{input_refusal}

-- no file of so few bytes has more records
room : (file : List ℕ) → length file ≤ 8192 → trailer_refusal file ≡ None → room_refusal (trailer_of file) 1024 512 ≡ None
room file few e =
    let t = trailer_of file in
    let parts = both_none (require (is_chart file) (refuse 1 None)) (require (in_limits t (length file)) (refuse 2 None)) e in
    let w = within t (length file) (required (in_limits t (length file)) (refuse 2 None) parts.1) in
    ap (λ (b : Bool). require b (refuse 9 None)) (and_from (leb t.places 1024) (leb t.links 512)
    (le-leb t.places 1024 (omega (arith, w.fits, w.inside))) (le-leb t.links 512 (omega (arith, w.fits, w.inside))))

skipped : (a b c : Option Refusal) → (a ≡ None → b ≡ None) → or_else a (or_else b c) ≡ or_else a c
skipped None b c h = ap (λ (o : Option Refusal). or_else o c) (h refl)
skipped (Some r) b c h = refl

pub roomy : (file : List ℕ) (places links : ℕ) → places ≡ 1024 → links ≡ 512 → length file ≤ 8192 →
    file_refusal file places links ≡ input_refusal file
roomy file places links p l few =
    (λ i. file_refusal file (p i) (l i))
    ∙ skipped (trailer_refusal file) (room_refusal (trailer_of file) 1024 512) (records_refusal file) (room file few)
    ∙ ap (λ (b : Bool). or_else (require b (refuse 2 None)) (or_else (trailer_refusal file) (records_refusal file))) (sym (le-leb (length file) 8192 few))
