-- Records written over the front of a memory.
use Rattle.std.proofs.Common.{◌≡◌, ℕ, ◌+◌, ◌<◌, List, [], ◌∷◌, ◌++◌, map, length, get_or, take, drop, set, Some, None, Option, sym, refl, ap, ◌∙◌, append_assoc, arith}
use Rattle.std.specs.List.{range_with_len}
use Rattle.std.proofs.lemmas.List.FromFn.{get_or-map-range_with_len, length-map-range_with_len, map-range_with_len_more}
use Rattle.chart.specs.Refusals.{Refusal, unless}
use Rattle.chart_file.specs.File.{Layout, filled, record_of, records_of, trailer_of}
use Rattle.chart_file.specs.declared.trailer.Trailer.{Trailer}
use Rattle.std.proofs.lemmas.List.{drop_more, set_at, take_at}

-- a loop that writes f 0, f 1, ..
pub written_more : {X : Type 0} (f : ℕ → X) (xs : List X) (n : ℕ) → n < length xs →
    set (map f (range_with_len 0 n) ++ drop n xs) n (f n) ≡ map f (range_with_len 0 (n + 1)) ++ drop (n + 1) xs
written_more {X} f xs n l =
    ap (λ (r : List X). set (map f (range_with_len 0 n) ++ r) n (f n)) (drop_more xs n (f n) l)
    ∙ set_at (map f (range_with_len 0 n)) _ (drop (n + 1) xs) (f n) n (length-map-range_with_len f 0 n)
    ∙ sym (append_assoc (map f (range_with_len 0 n)) (f n ∷ []) (drop (n + 1) xs))
    ∙ ap (λ (r : List X). r ++ drop (n + 1) xs) (sym (map-range_with_len_more f 0 n n (omega arith)))

pub counted : {A : Type 0} (l : Layout A) (file : List ℕ) → length (records_of l file) ≡ l.count (trailer_of file)
counted l file = length-map-range_with_len (record_of l file) 0 (l.count (trailer_of file))

-- a record of the file is found under its number
pub found : {A : Type 0} (l : Layout A) (file : List ℕ) (d : A) (n : ℕ) → n < l.count (trailer_of file) → get_or (records_of l file) n d ≡ record_of l file n
found l file d n lt = get_or-map-range_with_len (record_of l file) 0 (l.count (trailer_of file)) n n d lt (omega arith)

-- the front of a memory that was filled
pub front : {A : Type 0} (l : Layout A) (file : List ℕ) (t : Trailer) (before after : List A) → t ≡ trailer_of file → after ≡ filled l file before →
    take (l.count t) after ≡ records_of l file
front l file t before after whole h =
    ap (λ (u : Trailer). take (l.count u) after) whole
    ∙ ap (take (l.count (trailer_of file))) h
    ∙ take_at (records_of l file) (drop (l.count (trailer_of file)) before) (l.count (trailer_of file)) (counted l file)

-- what stands where nothing is refused
pub not_refused : {X : Type 0} (o : Option Refusal) → None ≡ o → (before after : X) → unless o before after ≡ after
not_refused None e before after = refl
not_refused (Some r) e before after = cc
