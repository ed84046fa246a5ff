-- The order of the queue and its top, as prices see them.
use Rattle.std.proofs.Common.{◌≡◌, ℕ, ◌<◌, ◌==◌, Bool, true, false, cond, nat_lt, List, length, Some, None, Option, IfSome, refl, sym, ap, ◌∙◌, subst, arith}
use mathlib.Core.List.{map-map}
use Rattle.std.proofs.lemmas.Cmp.{on_total, then_total}
use Rattle.std.proofs.lemmas.List.{length-map}
use Rattle.std.proofs.lemmas.Option.{slice_get-get_or}
use Rattle.std.specs.Cmp.{IsTotalOrder}
use Rattle.std.specs.declared.cmp.Ordering.{Ordering}
use Rattle.std.specs.declared.cmp.Ordering.TheVariants.{Less, Equal, Greater}
use Rattle.std.specs.List.{slice_get}
use Rattle.std.specs.Ordering.{is_lt, nat_cmp, ordering_reverse, ordering_then}
use Rattle.rows.specs.Rows.{Price, less}
use Rattle.rows.specs.Keys.{before, in_turn, key_less}
use Rattle.rows.proofs.Keys.{before_chain, before_one_way}
use Rattle.bench.specs.declared.key.Key.{Key}
use Rattle.bench.specs.declared.bench.Bench.{Bench}
use Rattle.bench.specs.declared.record.Record.{Record}
use Rattle.bench.specs.Heap.{Ordered}
use Rattle.bench.specs.Keys.{key_of}
use Rattle.bench.specs.Order.{before_by}
use Rattle.bench.specs.Queue.{Queued}
use Rattle.bench.specs.Records.{in_slot, index_of, keys}
use Rattle.bench.specs.Sorted.{InOrder, ahead}
use Rattle.bench.specs.Prices.{LeastIn, SortedIn, key_at, keys_in}
use Rattle.bench.proofs.Heaps as heaps
use Rattle.bench.proofs.Links.{Linked, linked, queued_within, slot_queued}
use Rattle.bench.proofs.Ranked.{ahead_keys, ahead_mapped, ranks}

-- the place in the first slot of a queue in heap order is the least
module _ {P : Type 0} (v : P → Price) (rs : List (Record P (Key P))) (n : ℕ) (linked : Linked rs n) where
  key_known : (p : ℕ) → Queued rs n p → slice_get (keys_in v rs) p ≡ Some (key_at v rs p)
  key_known p w =
      let l = queued_within rs n p linked w in
      let m : length (keys_in v rs) ≡ length rs = length-map rs _ in
      slice_get-get_or (keys_in v rs) p _ (omega arith)

  top_least : (p : ℕ) → p ≡ in_slot rs 0 → 0 < n → SortedIn v rs n → LeastIn v rs n p
  top_least p e l h q w =
      let i = index_of rs q in
      let t : Queued rs n p = subst (Queued rs n) (sym e) (slot_queued rs n 0 linked l) in
      sym (ahead_keys before (keys_in v rs) q p (key_at v rs q) (key_at v rs p) (key_known q w) (key_known p t))
      ∙ (λ m. ahead before (keys_in v rs) (sym w.1 m) (e m))
      ∙ heaps.top (ahead before (keys_in v rs)) (ranks before (record { one_way = λ x y. before_one_way x.0 y.0 x.1 y.1; chain = λ x y z h k. before_chain z.0 y.0 x.0 z.1 y.1 x.1 k h }) (keys_in v rs)) (in_slot rs) n h i i (omega arith) w.0

-- what is first is the least, where the queue is in heap order
pub top_is_least : {P : Type 0} (v : P → Price) (q : Bench P (Key P)) (r : Option ℕ) → IfSome r (λ p. (0 < q.used) × (p ≡ in_slot q.records.now 0)) → SortedIn v q.records.now q.used → IfSome r (λ p. LeastIn v q.records.now q.used p)
top_is_least v q None f h = tt
top_is_least v q (Some p) f h = top_least v q.records.now q.used (linked q) p f.1 f.0 h

-- a comparison, and what stands for it as a test
module _ {X : Type 0} (R : X → X → Ordering) (o : IsTotalOrder R) (test : X → X → Bool) (law : (x y : X) → is_lt (R x y) ≡ test x y) where
  turns : (r s : Ordering) → is_lt (ordering_then r s) ≡ in_turn (is_lt r) (is_lt (ordering_reverse r)) (is_lt s)
  turns Less s = refl
  turns Equal s = refl
  turns Greater s = refl

  pub then_in_turn : (x y : X) (s : Ordering) (b : Bool) → is_lt s ≡ b → is_lt (ordering_then (R x y) s) ≡ in_turn (test x y) (test y x) b
  then_in_turn x y s b e =
      let back : is_lt (ordering_reverse (R x y)) ≡ test y x = ap is_lt (sym (o.antisymm y x)) ∙ law y x in
      turns (R x y) s ∙ (λ i. in_turn (law x y i) (back i) (e i))

smaller_number : (p q : ℕ) → is_lt (nat_cmp p q) ≡ nat_lt p q
smaller_number p q = chosen (nat_lt p q) (p == q)
  where
    chosen : (b c : Bool) → is_lt (cond b Less (cond c Equal Greater)) ≡ b
    chosen true c = refl
    chosen false true = refl
    chosen false false = refl

-- the derived order of keys is the order of what they stand for
module _ {P : Type 0} (v : P → Price) (cmp : P → P → Ordering) (o : IsTotalOrder cmp) (law : (x y : P) → is_lt (cmp x y) ≡ less (v x) (v y)) where
  abbrev by_key : Key P → Key P → Ordering
  by_key a b = ordering_then (cmp a.whole b.whole) (cmp a.own b.own)

  keys_total : IsTotalOrder by_key
  keys_total = then_total (on_total (λ k. k.whole) o) (on_total (λ k. k.own) o)

  keys_law : (a b : Key P) → is_lt (by_key a b) ≡ key_less (key_of v a) (key_of v b)
  keys_law a b = then_in_turn cmp o (λ x y. less (v x) (v y)) law a.whole b.whole (cmp a.own b.own) _ (law a.own b.own)

  same_before : (a : Key P) (p : ℕ) (b : Key P) (q : ℕ) → before (key_of v a) p (key_of v b) q ≡ before_by by_key a p b q
  same_before a p b q = sym (then_in_turn by_key keys_total (λ x y. key_less (key_of v x) (key_of v y)) keys_law a b (nat_cmp p q) _ (smaller_number p q))

  same_order : (rs : List (Record P (Key P))) → ahead before (keys_in v rs) ≡ ahead (before_by by_key) (keys rs)
  same_order rs = ap (ahead before) (sym (map-map (key_of v) (λ r. r.key) rs)) ∙ ahead_mapped (key_of v) before (keys rs)
      ∙ (λ i. ahead (λ a p b q. same_before a p b q i) (keys rs))

  pub order_kept : (rs ss : List (Record P (Key P))) (m n : ℕ) → (InOrder (before_by by_key) rs m → InOrder (before_by by_key) ss n) → SortedIn v rs m → SortedIn v ss n
  order_kept rs ss m n f h = subst (λ lt. Ordered lt (in_slot ss) n) (sym (same_order ss)) (f (subst (λ lt. Ordered lt (in_slot rs) m) (same_order rs) h))
