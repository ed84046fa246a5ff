-- In a lawful chart, prices of at most 4,096 links, also with an estimate, stay below the ceiling.
use Rattle.std.proofs.Common.{◌≡◌, ℕ, zero, suc, ◌+◌, ◌<◌, ◌≤◌, min, Bool, true, false, cond, ltb, leb, List, [], ◌∷◌, length, replicate, Some, refl, ap, ◌∙◌, subst, mul-le-mul_right, arith}
use Rattle.std.proofs.lemmas.Bool.{and_from, and_parts, both_ways, cond-true, leb-true, lt-ltb}
use Rattle.rows.specs.Rows.{Kind, Price, Proper, add_rows, all_below, at_most, closed, is_open, less, linkable, open_at, smaller, sum, zero_of}
use Rattle.rows.proofs.Sums.{row_made}
use Rattle.rows.proofs.Numbers.{Uncapped, less_rank, not_less_rank, rank, rank_sum, rank_zero, top}
use Rattle.chart.specs.Lawful.{EstimateLaw, Lawful, LawfulLink, LinkLaw, Room}
use Rattle.chart.specs.Limits.{EachWithin, Within}
use Rattle.chart.specs.Meaning.{Link, Meaning, estimate_at, link_at, places}

-- rows

each_length : (n : ℕ) (ls xs : List ℕ) → EachWithin n ls xs → length xs ≡ length ls
each_length n [] [] h = refl
each_length n [] (x ∷ xs) h = absurd h
each_length n (l ∷ ls) [] h = absurd h
each_length n (l ∷ ls) (x ∷ xs) h = ap suc (each_length n ls xs h.1)

each_sum : (n : ℕ) (ls xs ys : List ℕ) → EachWithin n ls xs → EachWithin 1 ls ys → EachWithin (suc n) ls (add_rows xs ys)
each_sum n [] [] ys h k = tt
each_sum n [] (x ∷ xs) ys h k = absurd h
each_sum n (l ∷ ls) [] ys h k = absurd h
each_sum n (l ∷ ls) (x ∷ xs) [] h k = absurd k
each_sum n (l ∷ ls) (x ∷ xs) (y ∷ ys) h k = (omega (arith, h.0, k.0), each_sum n ls xs ys h.1 k.1)

each_more : (a b : ℕ) (ls xs : List ℕ) → a ≤ b → EachWithin a ls xs → EachWithin b ls xs
each_more a b [] [] le h = tt
each_more a b [] (x ∷ xs) le h = absurd h
each_more a b (l ∷ ls) [] le h = absurd h
each_more a b (l ∷ ls) (x ∷ xs) le h = (omega (arith, h.0, mul-le-mul_right l le), each_more a b ls xs le h.1)

each_zero : (n : ℕ) (ls : List ℕ) (long : ℕ) → length ls ≡ long → EachWithin n ls (replicate long 0)
each_zero n [] zero e = tt
each_zero n [] (suc k) e = absurd (omega arith)
each_zero n (l ∷ ls) zero e = absurd (omega arith)
each_zero n (l ∷ ls) (suc k) e = (omega arith, each_zero n ls k (omega arith))

each_link : (ls xs : List ℕ) → at_most xs ls ≡ true → EachWithin 1 ls xs
each_link [] [] h = tt
each_link [] (x ∷ xs) h = absurd (both_ways false refl h)
each_link (l ∷ ls) [] h = absurd (both_ways false refl h)
each_link (l ∷ ls) (x ∷ xs) h = let t = and_parts (leb x l) (at_most xs ls) h in (omega (arith, leb-true x l t.0), each_link ls xs t.1)

room_below : (c : ℕ) (ls es xs : List ℕ) → Room c ls es → EachWithin 4096 ls xs → all_below c xs ≡ true
room_below c [] [] [] r h = refl
room_below c [] [] (x ∷ xs) r h = absurd h
room_below c [] (e ∷ es) xs r h = absurd r
room_below c (l ∷ ls) [] xs r h = absurd r
room_below c (l ∷ ls) (e ∷ es) [] r h = absurd h
room_below c (l ∷ ls) (e ∷ es) (x ∷ xs) r h =
    and_from (ltb x c) (all_below c xs) (lt-ltb x c (omega (arith, r.0, h.0))) (room_below c ls es xs r.1 h.1)

room_sum : (c : ℕ) (ls es xs : List ℕ) → Room c ls es → EachWithin 4096 ls xs → all_below c (add_rows xs es) ≡ true
room_sum c [] [] [] r h = refl
room_sum c [] [] (x ∷ xs) r h = absurd h
room_sum c [] (e ∷ es) xs r h = absurd r
room_sum c (l ∷ ls) [] xs r h = absurd r
room_sum c (l ∷ ls) (e ∷ es) [] r h = absurd h
room_sum c (l ∷ ls) (e ∷ es) (x ∷ xs) r h =
    and_from (ltb (x + e) c) (all_below c (add_rows xs es)) (lt-ltb (x + e) c (omega (arith, r.0, h.0))) (room_sum c ls es xs r.1 h.1)

room_own : (c : ℕ) (ls es : List ℕ) → Room c ls es → (all_below c es ≡ true) × (length es ≡ length ls)
room_own c [] [] r = (refl, refl)
room_own c [] (e ∷ es) r = absurd r
room_own c (l ∷ ls) [] r = absurd r
room_own c (l ∷ ls) (e ∷ es) r =
    let t = room_own c ls es r.1 in
    (and_from (ltb e c) (all_below c es) (lt-ltb e c (omega (arith, r.0))) t.0, ap suc t.1)

-- prices

pub within_sum : (k : Kind) (n : ℕ) (p q : Price) → Within k n p → Within k 1 q → Within k (suc n) (sum k p q)
within_sum k n closed q h j = tt
within_sum k n (open_at xs) closed h j = tt
within_sum k n (open_at xs) (open_at ys) h j = go (all_below k.ceiling (add_rows xs ys))
  where
    go : (b : Bool) → Within k (suc n) (cond b (open_at (add_rows xs ys)) closed)
    go true = each_sum n k.largest xs ys h j
    go false = tt

pub within_smaller : (k : Kind) (n : ℕ) (p q : Price) → Within k n p → Within k n q → Within k n (smaller p q)
within_smaller k n p q h j = go (less p q)
  where
    go : (b : Bool) → Within k n (cond b p q)
    go true = h
    go false = j

pub within_more : (k : Kind) (a b : ℕ) (p : Price) → a ≤ b → Within k a p → Within k b p
within_more k a b closed le h = tt
within_more k a b (open_at xs) le h = each_more a b k.largest xs le h

pub link_within : (k : Kind) (p : Price) → linkable k p ≡ true → Within k 1 p
link_within k closed h = tt
link_within k (open_at xs) h = each_link k.largest xs h

module _ (m : Meaning) (law : Lawful m) where
  pub within_zero : (n : ℕ) → Within m.kind n (zero_of m.kind)
  within_zero n = each_zero n m.kind.largest m.kind.long law.measured

  proper_by : (e p : Price) → EstimateLaw m.kind e → Within m.kind 4096 p → Proper m.kind p
  proper_by closed p r h = absurd r
  proper_by (open_at es) closed r h = tt
  proper_by (open_at es) (open_at xs) r h =
      row_made m.kind xs (each_length 4096 m.kind.largest xs h ∙ law.measured) (room_below m.kind.ceiling m.kind.largest es xs r h)

  -- such a price is one of the kind
  pub within_proper : (p : Price) → Within m.kind 4096 p → Proper m.kind p
  within_proper p h = proper_by (estimate_at m m.start) p (law.estimates_law m.start law.start_in) h

  pub low_proper : (p : Price) → Within m.kind 4095 p → Proper m.kind p
  low_proper p h = within_proper p (within_more m.kind 4095 4096 p (omega arith) h)

  pub zero_proper : Proper m.kind (zero_of m.kind)
  zero_proper = within_proper (zero_of m.kind) (within_zero 4096)

  uncapped_by : (e p q : Price) → EstimateLaw m.kind e → Within m.kind 4095 p → Within m.kind 1 q → Uncapped m.kind p q
  uncapped_by closed p q r h j a b = absurd r
  uncapped_by (open_at es) closed q r h j a b = absurd (both_ways false refl a)
  uncapped_by (open_at es) (open_at xs) closed r h j a b = absurd (both_ways false refl b)
  uncapped_by (open_at es) (open_at xs) (open_at ys) r h j a b =
      ap is_open (cond-true (all_below m.kind.ceiling (add_rows xs ys)) (open_at (add_rows xs ys)) closed
      (room_below m.kind.ceiling m.kind.largest es (add_rows xs ys) r (each_sum 4095 m.kind.largest xs ys h j)))

  -- a link more does not reach the ceiling
  pub uncapped_link : (p q : Price) → Within m.kind 4095 p → Within m.kind 1 q → Uncapped m.kind p q
  uncapped_link p q h j = uncapped_by (estimate_at m m.start) p q (law.estimates_law m.start law.start_in) h j

  uncapped_with : (e p : Price) → EstimateLaw m.kind e → Within m.kind 4096 p → Uncapped m.kind p e
  uncapped_with closed p r h a b = absurd r
  uncapped_with (open_at es) closed r h a b = absurd (both_ways false refl a)
  uncapped_with (open_at es) (open_at xs) r h a b =
      ap is_open (cond-true (all_below m.kind.ceiling (add_rows xs es)) (open_at (add_rows xs es)) closed
      (room_sum m.kind.ceiling m.kind.largest es xs r h))

  -- nor does an estimate
  pub uncapped_estimate : (p : Price) (x : ℕ) → x < places m → Within m.kind 4096 p → Uncapped m.kind p (estimate_at m x)
  uncapped_estimate p x l h = uncapped_with (estimate_at m x) p (law.estimates_law x l) h

  estimate_by : (e : Price) → EstimateLaw m.kind e → Proper m.kind e × (is_open e ≡ true)
  estimate_by closed r = absurd r
  estimate_by (open_at es) r = let t = room_own m.kind.ceiling m.kind.largest es r in (row_made m.kind es (t.1 ∙ law.measured) t.0, refl)

  pub estimate_proper : (x : ℕ) → x < places m → Proper m.kind (estimate_at m x)
  estimate_proper x l = (estimate_by (estimate_at m x) (law.estimates_law x l)).0

  pub estimate_open : (x : ℕ) → x < places m → is_open (estimate_at m x) ≡ true
  estimate_open x l = (estimate_by (estimate_at m x) (law.estimates_law x l)).1

  -- links
  module _ (n : ℕ) (l : Link) (e : link_at m n ≡ Some l) where
    pub link_law : LawfulLink m.kind (places m) m.height l
    link_law = subst (LinkLaw m.kind (places m) m.height) e (law.links_law n)

    pub price_within : Within m.kind 1 l.price
    price_within = link_within m.kind l.price link_law.price_fits

    one_proper : (p : Price) → Within m.kind 1 p → Proper m.kind p
    one_proper p h = within_proper p (within_more m.kind 1 4096 p (omega arith) h)

    pub price_proper : Proper m.kind l.price
    price_proper = one_proper l.price price_within

    pub floor_within : Within m.kind 1 l.floor
    floor_within = link_within m.kind l.floor link_law.floor_fits

    pub floor_proper : Proper m.kind l.floor
    floor_proper = one_proper l.floor floor_within

    pub floor_rank : (0 < rank m.kind l.floor) × (rank m.kind l.floor ≤ rank m.kind l.price)
    floor_rank =
        let z : rank m.kind (zero_of m.kind) < rank m.kind l.floor =
        less_rank m.kind (zero_of m.kind) l.floor zero_proper floor_proper link_law.floor_above in
        let p : rank m.kind l.floor ≤ rank m.kind l.price =
        not_less_rank m.kind l.price l.floor price_proper floor_proper link_law.price_above in
        (omega (arith, rank_zero m.kind), p)

    pub price_rank : 0 < rank m.kind l.price
    price_rank = omega (arith, floor_rank.0, floor_rank.1)

    -- the sum with a price that has room for one link more
    pub link_sum : (p : Price) → Within m.kind 4095 p →
        rank m.kind (sum m.kind p l.price) ≡ min (rank m.kind p + rank m.kind l.price) (top m.kind)
    link_sum p h = rank_sum m.kind p l.price (low_proper p h) price_proper (uncapped_link p l.price h price_within)
