-- One place more, in the first unused slot.
use Rattle.std.proofs.Common.{◌≡◌, ℕ, ◌+◌, ◌<◌, List, length, get_or, set, sym, ap, ◌∙◌, subst, arith}
use Rattle.std.proofs.lemmas.List.{length-map, length-set, get_or-set_same, get_or-set_other}
use Rattle.bench.specs.declared.record.Record.{Record}
use Rattle.std.specs.Cmp.{IsTotalOrder}
use Rattle.std.specs.declared.cmp.Ordering.{Ordering}
use Rattle.bench.specs.declared.bench.Bench.{Bench}
use Rattle.bench.specs.Changes.{Enqueued, Heaped, HeapedBut}
use Rattle.bench.specs.Contents.{SameLender, Waits}
use Rattle.bench.specs.Order.{before_by}
use Rattle.bench.specs.Sorted.{GapAt}
use Rattle.bench.specs.Records.{in_slot, index_of, indexes, slots}
use Rattle.bench.specs.Queue.{Others, Queued, Rekeyed}
use Rattle.bench.proofs.Links.{Linked, linked, slots_below}
use Rattle.bench.proofs.Past.{SamePast, insert_past}
use Rattle.bench.proofs.Pigeons.{fewer}
use Rattle.bench.proofs.Sifts.{appends}
use Rattle.bench.proofs.Slots as by_number

pub set_after : {X : Type 0} (xs ys zs : List X) (i : ℕ) (x : X) → ys ≡ xs → zs ≡ set ys i x → zs ≡ set xs i x
set_after xs ys zs i x a b = b ∙ ap (λ ws. set ws i x) a

module _ {P K : Type 0} (rs ss : List (Record P K)) (n p : ℕ) (es : slots ss ≡ set (slots rs) n p) where
  pub append_same : (k : ℕ) → (k ≡ n → ⊥) → in_slot ss k ≡ in_slot rs k
  append_same k u = ap (λ xs. get_or xs k 0) es ∙ get_or-set_other (slots rs) n k p 0 u

  module _ (ei : indexes ss ≡ set (indexes rs) p n) (h : Linked rs n) (lp : p < length rs) (lo : p < 4096) (new : Queued rs n p → ⊥) where
    gp : in_slot ss n ≡ p
    gp = let r = fewer rs n p (length rs) h h.named lp new in
        let ls : length (slots rs) ≡ length rs = length-map rs _ in
        ap (λ xs. get_or xs n 0) es ∙ get_or-set_same (slots rs) n p 0 (omega arith)

    jp : index_of ss p ≡ n
    jp = let li : length (indexes rs) ≡ length rs = length-map rs _ in
        ap (λ xs. get_or xs p 0) ei ∙ get_or-set_same (indexes rs) p n 0 (omega arith)

    jo : (m : ℕ) → (m ≡ p → ⊥) → index_of ss m ≡ index_of rs m
    jo m u = ap (λ xs. get_or xs m 0) ei ∙ get_or-set_other (indexes rs) p m n 0 u

    pub append_linked : Linked ss (n + 1)
    append_linked =
        let r = fewer rs n p (length rs) h h.named lp new in
        let c = fewer rs n p 4096 h h.low lo new in
        let z : length ss ≡ length rs = sym (length-map ss _) ∙ ap length es ∙ length-set (slots rs) n p ∙ length-map rs _ in
        record {
          within = omega arith;
          small = omega arith;
          low = by_number.add_below (in_slot rs) (in_slot ss) (index_of rs) (index_of ss) n p gp append_same jp jo h.back new 4096 lo h.low;
          named = by_number.add_below (in_slot rs) (in_slot ss) (index_of rs) (index_of ss) n p gp append_same jp jo h.back new (length ss) (omega arith) (λ k l. omega (arith, h.named k l));
          back = by_number.add_back (in_slot rs) (in_slot ss) (index_of rs) (index_of ss) n p gp append_same jp jo h.back new;
        }

    append_new : Queued ss (n + 1) p
    append_new = by_number.add_new (in_slot rs) (in_slot ss) (index_of rs) (index_of ss) n p gp append_same jp jo h.back new

    append_others : Others rs n ss (n + 1) p
    append_others q u = (
      by_number.add_into (in_slot rs) (in_slot ss) (index_of rs) (index_of ss) n p gp append_same jp jo h.back new q,
      λ a. by_number.add_out (in_slot rs) (in_slot ss) (index_of rs) (index_of ss) n p gp append_same jp jo h.back new q a u,
    )

    append_past : (key : K) → Rekeyed rs ss p key → (m : ℕ) → p < m → ((q : ℕ) → Queued rs n q → q < m) → SamePast rs ss m
    append_past key r m l w = insert_past rs ss m p key r l n (fewer rs n p m h (slots_below rs n m h w) l new) es ei

-- the queue with one place more
module _ {P K : Type 0} (q x : Bench P K) (p : ℕ) (key : K) (es : slots x.records.now ≡ set (slots q.records.now) q.used p) (lender : SameLender q x) (u : x.used ≡ q.used + 1) (r : Rekeyed q.records.now x.records.now p key) where
  pub appended : indexes x.records.now ≡ set (indexes q.records.now) p q.used → p < length q.records.now → p < 4096 → (Waits q p → ⊥) → Enqueued q x p key
  appended ei lp lo new =
      let rs = q.records.now in
      let ss = x.records.now in
      let h = linked q in
      record {
        lender = lender;
        holds = subst (λ n. Queued ss n p) (sym u) (append_new rs ss q.used p es ei h lp lo new);
        others = subst (λ n. Others rs q.used ss n p) (sym u) (append_others rs ss q.used p es ei h lp lo new);
        rekeyed = r;
        past = append_past rs ss q.used p es ei h lp lo new key r;
      }

  pub append_gap : (cmp : K → K → Ordering) → IsTotalOrder cmp → (Waits q p → ⊥) → Heaped cmp q → HeapedBut cmp x q.used
  append_gap cmp o new heap = subst (λ n. GapAt (before_by cmp) x.records.now q.used n) (sym u)
      (appends cmp o q.records.now x.records.now q.used p key r.0 (linked q) (append_same q.records.now x.records.now q.used p es) new heap)
