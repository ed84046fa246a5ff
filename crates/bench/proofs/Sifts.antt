-- What the steps of the sifts, one more slot and another key do to heap order in the records.
use Rattle.std.proofs.Common.{◌≡◌, ℕ, ◌+◌, ◌*◌, ◌<◌, ◌≤◌, Bool, true, false, List, get_or, set, sym, ap, ◌∙◌, subst, ⊎_elim, arith}
use Rattle.std.proofs.lemmas.Bool.{cases_eq}
use Rattle.std.proofs.lemmas.List.Edits.{Swapped}
use Rattle.std.specs.Cmp.{IsStrictWeakOrder, IsTotalOrder}
use Rattle.std.specs.declared.cmp.Ordering.{Ordering}
use Rattle.bench.specs.declared.bench.Bench.{Bench}
use Rattle.bench.specs.declared.record.Record.{Record}
use Rattle.bench.specs.Changes.{HeapedBut, Reordered}
use Rattle.bench.specs.Heap.{Child, Gap, Le, Under}
use Rattle.bench.specs.Order.{before_by}
use Rattle.bench.specs.Records.{Exchanged, in_slot, index_of, keys, slots}
use Rattle.bench.specs.Queue.{Queued}
use Rattle.bench.specs.Sorted.{FirstOf, GapAt, InOrder, UnderAt, ahead}
use Rattle.bench.proofs.Heaps as heaps
use Rattle.bench.proofs.Links.{Linked, linked, swapped}
use Rattle.bench.proofs.Ranked.{ahead_other, ranks, weak}

-- place x comes before place y
abbrev pub lt : {K : Type 0} → (K → K → Ordering) → List K → ℕ → ℕ → Bool
lt cmp ks = ahead (before_by cmp) ks

pub order : {K : Type 0} (cmp : K → K → Ordering) → IsTotalOrder cmp → (ks : List K) → IsStrictWeakOrder (lt cmp ks)
order cmp o ks = ranks (before_by cmp) (weak cmp o) ks

module _ {P K : Type 0} (cmp : K → K → Ordering) (o : IsTotalOrder cmp) where
  -- slot j and its child c are exchanged
  module _ (q r : Bench P K) (m : Reordered q r) (j c : ℕ) (x : Exchanged q.records.now r.records.now j c) (is : Child j c) (lj : j < q.used) (lc : c < q.used) where
    s : Swapped (in_slot q.records.now) (in_slot r.records.now) j c
    s = swapped q.records.now r.records.now j c x q.used (linked q) lj lc

    moved : (k : ℕ) → Gap (lt cmp (keys q.records.now)) (in_slot r.records.now) k q.used → HeapedBut cmp r k
    moved k gap = subst (λ n. Gap (lt cmp (keys r.records.now)) (in_slot r.records.now) k n) (sym m.used)
        (subst (λ ks. Gap (lt cmp ks) (in_slot r.records.now) k q.used) (sym m.kept.0) gap)

    pub step_up : HeapedBut cmp q c → HeapedBut cmp r j
    step_up gap = moved j (heaps.up (lt cmp (keys q.records.now)) (order cmp o (keys q.records.now)) (in_slot q.records.now) (in_slot r.records.now) j c q.used is lc s gap)

    pub step_down : FirstOf (before_by cmp) q.records.now c j q.used → HeapedBut cmp q j → HeapedBut cmp r c
    step_down best gap = moved c (heaps.down (lt cmp (keys q.records.now)) (order cmp o (keys q.records.now)) (in_slot q.records.now) (in_slot r.records.now) j c q.used is lc s best gap)

    pub step_under : true ≡ lt cmp (keys q.records.now) (in_slot q.records.now c) (in_slot q.records.now j) → UnderAt (before_by cmp) r.records.now c
    step_under t = subst (λ ks. Under (lt cmp ks) (in_slot r.records.now) c) (sym m.kept.0)
        (heaps.down_under (lt cmp (keys q.records.now)) (order cmp o (keys q.records.now)) (in_slot q.records.now) (in_slot r.records.now) j c q.used is lc s (sym t))

  module _ (rs : List (Record P K)) (j n : ℕ) where
    -- the first child, of one and of two
    pub only_child : n ≤ j * 2 + 2 → FirstOf (before_by cmp) rs (j * 2 + 1) j n
    only_child le = λ k a l. heaps.same_slot (lt cmp (keys rs)) (order cmp o (keys rs)) (in_slot rs) (j * 2 + 1) k (omega arith)

    pub left_child : false ≡ lt cmp (keys rs) (in_slot rs (j * 2 + 2)) (in_slot rs (j * 2 + 1)) → FirstOf (before_by cmp) rs (j * 2 + 1) j n
    left_child t = λ k a l. ⊎_elim
        (λ d. heaps.same_slot (lt cmp (keys rs)) (order cmp o (keys rs)) (in_slot rs) (j * 2 + 1) k d)
        (λ u. let d : k ≡ j * 2 + 2 = omega arith in ap (λ m. lt cmp (keys rs) (in_slot rs m) (in_slot rs (j * 2 + 1))) d ∙ sym t) (cases_eq k (j * 2 + 1))

    pub right_child : true ≡ lt cmp (keys rs) (in_slot rs (j * 2 + 2)) (in_slot rs (j * 2 + 1)) → FirstOf (before_by cmp) rs (j * 2 + 2) j n
    right_child t = λ k a l. ⊎_elim
        (λ d. heaps.same_slot (lt cmp (keys rs)) (order cmp o (keys rs)) (in_slot rs) (j * 2 + 2) k d)
        (λ u. let d : k ≡ j * 2 + 1 = omega arith in ap (λ m. lt cmp (keys rs) (in_slot rs m) (in_slot rs (j * 2 + 2))) d ∙ (order cmp o (keys rs)).one_way _ _ (sym t)) (cases_eq k (j * 2 + 2))

    -- the end of a sift down: at a leaf, or over a first child that need not go up
    pub sinks_leaf : n ≤ j * 2 + 1 → GapAt (before_by cmp) rs j n → UnderAt (before_by cmp) rs j → InOrder (before_by cmp) rs n
    sinks_leaf leaf gap under = heaps.closes (lt cmp (keys rs)) (in_slot rs) j n gap under (λ k a l. absurd (omega arith))

    pub sinks_rest : (c : ℕ) → false ≡ lt cmp (keys rs) (in_slot rs c) (in_slot rs j) → FirstOf (before_by cmp) rs c j n → GapAt (before_by cmp) rs j n → UnderAt (before_by cmp) rs j → InOrder (before_by cmp) rs n
    sinks_rest c t best gap under = heaps.closes (lt cmp (keys rs)) (in_slot rs) j n gap under
        (λ k a l. (order cmp o (keys rs)).chain _ _ _ (best k a l) (sym t))

  -- place p has another key
  module _ (rs ss : List (Record P K)) (n p : ℕ) (key : K) (ek : keys ss ≡ set (keys rs) p key) (linked : Linked rs n) where
    turn : (i k : ℕ) → in_slot ss i ≡ in_slot rs i → in_slot ss k ≡ in_slot rs k → (in_slot rs i ≡ p → ⊥) → (in_slot rs k ≡ p → ⊥) →
        Le (lt cmp (keys rs)) (in_slot rs i) (in_slot rs k) → Le (lt cmp (keys ss)) (in_slot ss i) (in_slot ss k)
    turn i k ei ej u w t = ahead_other (before_by cmp) (keys rs) (keys ss) p (in_slot ss k) (in_slot ss i) key ek (λ e. w (sym ej ∙ e)) (λ e. u (sym ei ∙ e))
        ∙ (λ m. lt cmp (keys rs) (ej m) (ei m)) ∙ t

    -- it was not queued, and stands in one more slot at the end
    pub appends : ((k : ℕ) → (k ≡ n → ⊥) → in_slot ss k ≡ in_slot rs k) → (Queued rs n p → ⊥) → InOrder (before_by cmp) rs n → GapAt (before_by cmp) ss n (n + 1)
    appends same new h =
        let else : (k : ℕ) → k < n → in_slot rs k ≡ p → ⊥ = λ k l e.
        let i : index_of rs p ≡ k = ap (index_of rs) (sym e) ∙ linked.back k l in
        new (omega arith, ap (in_slot rs) i ∙ e) in
        record {
          apart = λ i k a l u v. turn i k (same i u) (same k v) (else i (omega arith)) (else k (omega arith)) (h i k a (omega arith));
          across = λ i k a b l. absurd (omega arith);
        }

    -- it is queued, and stays in slot j
    pub rekeys : slots ss ≡ slots rs → (j : ℕ) → j ≡ index_of rs p → Queued rs n p → InOrder (before_by cmp) rs n → GapAt (before_by cmp) ss j n
    rekeys es j is q h =
        let same : (k : ℕ) → in_slot ss k ≡ in_slot rs k = λ k. ap (λ xs. get_or xs k 0) es in
        let else : (k : ℕ) → k < n → (k ≡ j → ⊥) → in_slot rs k ≡ p → ⊥ = λ k l u e. u (sym (linked.back k l) ∙ ap (index_of rs) e ∙ sym is) in
        let l : j < n = omega (arith, q.0) in
        record {
          apart = λ i k a lk u w. turn i k (same i) (same k) (else i (omega arith) u) (else k lk w) (h i k a lk);
          across = λ i k a b lk. turn i k (same i) (same k) (else i (omega arith) (omega arith)) (else k lk (omega arith)) ((order cmp o (keys rs)).chain _ _ _ (h j k b lk) (h i j a l));
        }
