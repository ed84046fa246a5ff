-- What an exchange, one more place and one place less do to the queue in the records.
use Rattle.std.proofs.Common.{◌≡◌, ℕ, ◌<◌, ◌≤◌, List, length, get_or, set, sym, ap, ◌∙◌, subst, ⊎_elim, arith}
use Rattle.std.proofs.lemmas.List.{length-map, length-set, get_or-map, get_or-set_same, get_or-set_other}
use lib.Seq.{map-set_same}
use Rattle.std.proofs.lemmas.Bool.{cases_eq}
use Rattle.std.proofs.lemmas.List.Edits.{Swapped, swap_is, swapped_from_swap}
use Rattle.bench.specs.declared.record.Record.{Record}
use Rattle.bench.specs.declared.bench.Bench.{Bench}
use Rattle.bench.specs.Records.{Exchanged, in_slot, index_of, indexes, slots}
use Rattle.bench.specs.Queue.{Back, Low, Named, Queued}
use Rattle.bench.proofs.Slots as by_number

-- what a queue keeps: the used slots and the indexes agree; unused slots and the indexes of other places are free
pub record Linked {P K : Type 0} (rs : List (Record P K)) (used : ℕ) : Type 0 where
  pub within : used ≤ length rs
  pub small : used ≤ 4096
  pub named : Named rs used
  pub low : Low rs used
  pub back : Back rs used

-- the same places are queued
abbrev pub SamePlaces : {P K : Type 0} → List (Record P K) → List (Record P K) → ℕ → Type 0
SamePlaces rs ss n = (p : ℕ) → (Queued rs n p → Queued ss n p) × (Queued ss n p → Queued rs n p)

pub linked : {P K : Type 0} (q : Bench P K) → Linked q.records.now q.used
linked q = record { within = q.within; small = q.small; named = q.named; low = q.low; back = q.back }

module _ {P K : Type 0} (rs : List (Record P K)) where
  -- a queued place is one of the records
  pub queued_within : (n p : ℕ) → Linked rs n → Queued rs n p → p < length rs
  queued_within n p h q = subst (λ m. m < length rs) q.1 (h.named (index_of rs p) q.0)

  -- the place in a used slot is queued
  pub slot_queued : (n k : ℕ) → Linked rs n → k < n → Queued rs n (in_slot rs k)
  slot_queued n k h l = let e = h.back k l in (subst (λ m. m < n) (sym e) l, ap (in_slot rs) e)

  pub slots_below : (n m : ℕ) → Linked rs n → ((q : ℕ) → Queued rs n q → q < m) → (k : ℕ) → k < n → in_slot rs k < m
  slots_below n m h w k l = w (in_slot rs k) (slot_queued n k h l)

module _ {P K : Type 0} (rs ss : List (Record P K)) where
  -- two used slots exchanged, and the indexes of the two places with them
  module _ (a b : ℕ) (x : Exchanged rs ss a b) (n : ℕ) (h : Linked rs n) (la : a < n) (lb : b < n) where
    pub swapped : Swapped (in_slot rs) (in_slot ss) a b
    swapped =
        let l = length-map rs (λ r. r.slot) in
        let w = h.within in
        let wa : a < length (slots rs) = omega arith in
        let wb : b < length (slots rs) = omega arith in
        swapped_from_swap (slots rs) (slots ss) a b 0 wa wb (x.slots_are ∙ swap_is (slots rs) a b 0 wa wb)

    pub swap_same : SamePlaces rs ss n
    swap_same =
        let ei = x.indexes_are in
        let s = swapped in
        let p = in_slot rs a in
        let q = in_slot rs b in
        let w = h.within in
        let m = length-map rs (λ r. r.index) in
        let lp : p < length (indexes rs) = omega (arith, h.named a la) in
        let lq : q < length (indexes rs) = omega (arith, h.named b lb) in
        let lp' : p < length (set (indexes rs) q a) = rw length-set lp in
        let ja : index_of ss p ≡ b = ap (λ xs. get_or xs p 0) ei ∙ get_or-set_same (set (indexes rs) q a) p b 0 lp' in
        let jb : index_of ss q ≡ a = ⊎_elim
        (λ (e : q ≡ p). ap (index_of ss) e ∙ ja ∙ sym (h.back b lb) ∙ ap (index_of rs) e ∙ h.back a la)
        (λ u. ap (λ xs. get_or xs q 0) ei ∙ get_or-set_other (set (indexes rs) q a) p q b 0 u ∙ get_or-set_same (indexes rs) q a 0 lq) (cases_eq q p) in
        let jo : (k : ℕ) → (k ≡ p → ⊥) → (k ≡ q → ⊥) → index_of ss k ≡ index_of rs k = λ k u v.
        ap (λ xs. get_or xs k 0) ei ∙ get_or-set_other (set (indexes rs) q a) p k b 0 u ∙ get_or-set_other (indexes rs) q k a 0 v in
        λ y. (
          by_number.swap_into (in_slot rs) (in_slot ss) (index_of rs) (index_of ss) a b n la lb s ja jb jo h.back y,
          by_number.swap_out (in_slot rs) (in_slot ss) (index_of rs) (index_of ss) a b n la lb s ja jb jo h.back y,
        )

-- the record in a used slot names one of the records
module _ {P K : Type 0} (q : Bench P K) (k : ℕ) (d : Record P K) where
  pub slot_within : k < q.used → (get_or q.records.now k d).slot < length q.records.now
  slot_within l = let w = q.within in subst (λ p. p < length q.records.now) (get_or-map (λ r. r.slot) q.records.now k d 0 (omega arith)) (q.named k l)

module _ {P K : Type 0} (rs ss : List (Record P K)) where
  -- links, and who is queued, hang on the slots and the indexes alone
  module _ (es : slots ss ≡ slots rs) (ei : indexes ss ≡ indexes rs) where
    pub relinked : (n : ℕ) → Linked rs n → Linked ss n
    relinked n h =
        let s : (k : ℕ) → in_slot ss k ≡ in_slot rs k = λ k. ap (λ xs. get_or xs k 0) es in
        let w = h.within in
        let el : length ss ≡ length rs = sym (length-map ss _) ∙ ap length es ∙ length-map rs _ in
        record {
          within = omega arith;
          small = h.small;
          named = λ k l. let m = h.named k l in let e = s k in omega arith;
          low = λ k l. let m = h.low k l in let e = s k in omega arith;
          back = λ k l. (λ i. get_or (ei i) (s k i) 0) ∙ h.back k l;
        }

    pub requeued : (n : ℕ) → SamePlaces rs ss n
    requeued n q = (
      λ h. let e : index_of ss q ≡ index_of rs q = ap (λ xs. get_or xs q 0) ei in let l = h.0 in (omega arith, (λ i. get_or (es i) (e i) 0) ∙ h.1),
      λ h. let e : index_of rs q ≡ index_of ss q = ap (λ xs. get_or xs q 0) (sym ei) in let l = h.0 in (omega arith, (λ i. get_or (sym es i) (e i) 0) ∙ h.1),
    )

-- a record is replaced by one with its slot and its index
module _ {P K : Type 0} (q : Bench P K) (i : ℕ) (d r : Record P K) where
  pub rewritten : r.slot ≡ (get_or q.records.now i d).slot → r.index ≡ (get_or q.records.now i d).index → Linked (set q.records.now i r) q.used
  rewritten es ei = relinked q.records.now (set q.records.now i r) (map-set_same (λ r. r.slot) q.records.now i r d es) (map-set_same (λ r. r.index) q.records.now i r d ei) q.used (linked q)
