-- What a chart answers when it is asked.
use Rattle.std.specs.Prelude.{◌≡◌, ℕ, suc, ◌<◌, ◌≤◌, Bool, true, false, cond, List, [], ◌∷◌, length, drop, Some, None, Option, ◌==◌, slice_index_or}
use Rattle.rows.specs.Rows.{Price}
use Rattle.chart.specs.declared.end.End.{End}
use Rattle.chart.specs.declared.end.End.TheVariants.{From, To}
use Rattle.chart.specs.declared.link.Link.{Link as Answer}
use Rattle.chart.specs.Meaning.{Link, Meaning}

-- what a link that is answered means, where v gives the price that a value stands for
abbrev pub answered : {P : Type 0} → (P → Price) → Answer P → Link
answered v l = record { from = l.from; to = l.to; floor = v l.floor; price = v l.price; held = l.held }

abbrev pub leads_into : ℕ → Option Link → Bool
leads_into p None = false
leads_into p (Some l) = l.to == p

abbrev pub leads_out : ℕ → Option Link → Bool
leads_out p None = false
leads_out p (Some l) = l.from == p

-- the numbers of the links that pass a test, in rising order, where the first of the list has number k
abbrev pub numbers_from : (Option Link → Bool) → ℕ → List (Option Link) → List ℕ
numbers_from test k [] = []
numbers_from test k (l ∷ ls) = cond (test l) (k ∷ numbers_from test (suc k) ls) (numbers_from test (suc k) ls)

-- the numbers of the links into a place, and out of it
abbrev pub into : Meaning → ℕ → List ℕ
into m p = numbers_from (leads_into p) 0 m.links

abbrev pub out_of : Meaning → ℕ → List ℕ
out_of m p = numbers_from (leads_out p) 0 m.links

-- the end that is this one when the link leads the other way
abbrev pub opposite : End → End
opposite From = To
opposite To = From

-- a link has this end at a place
abbrev pub leads_at : End → ℕ → Option Link → Bool
leads_at From = leads_out
leads_at To = leads_into

-- the numbers of the links with this end at a place: `out_of` or `into`
abbrev pub numbers_at : End → Meaning → ℕ → List ℕ
numbers_at end m p = numbers_from (leads_at end p) 0 m.links

-- those of them from k on
abbrev pub numbers_left : End → Meaning → ℕ → ℕ → List ℕ
numbers_left end m p k = numbers_from (leads_at end p) k (drop k m.links)

-- the answer is the lowest link number, from k on, that passes a test; none if there is none
abbrev pub Next : (Option Link → Bool) → List (Option Link) → ℕ → Option ℕ → Type 0
Next test ls k None = (j : ℕ) → k ≤ j → test (slice_index_or ls j None) ≡ false
Next test ls k (Some n) =
    (k ≤ n) × (n < length ls) × (test (slice_index_or ls n None) ≡ true) × ((j : ℕ) → k ≤ j → j < n → test (slice_index_or ls j None) ≡ false)
