-- Records are their columns: where each column is as it was from place m on, so are the records, whole.
use Rattle.std.proofs.Common.{◌≡◌, ℕ, ◌<◌, List, [], ◌∷◌, map, drop, set, sym, refl, ap, ◌∙◌, arith, drop-set-lt}
use Rattle.std.proofs.lemmas.List.{drop-map}
use Rattle.bench.specs.declared.record.Record.{Record}
use Rattle.bench.specs.Records.{Exchanged, in_slot, indexes, keys, lookaheads, slots, standings}
use Rattle.bench.specs.Queue.{Rekeyed}

-- from place m on each record is as it was, whole
abbrev pub SamePast : {P K : Type 0} → List (Record P K) → List (Record P K) → ℕ → Type 0
SamePast rs ss m = drop m ss ≡ drop m rs

same_records : {P K : Type 0} (rs ss : List (Record P K)) → slots ss ≡ slots rs → indexes ss ≡ indexes rs → keys ss ≡ keys rs → standings ss ≡ standings rs → lookaheads ss ≡ lookaheads rs → ss ≡ rs
same_records [] [] es ei ek et el = refl
same_records [] (s ∷ ss) es ei ek et el = let z : ◌≡◌ {A = ℕ} 0 1 = cc in absurd (omega arith)
same_records (r ∷ rs) [] es ei ek et el = let z : ◌≡◌ {A = ℕ} 0 1 = cc in absurd (omega arith)
same_records (r ∷ rs) (s ∷ ss) es ei ek et el =
    let hs : s.slot ≡ r.slot = cc in
    let hi : s.index ≡ r.index = cc in
    let hk : s.key ≡ r.key = cc in
    let ht : s.standing ≡ r.standing = cc in
    let hl : s.lookahead ≡ r.lookahead = cc in
    let tail = same_records rs ss (cc) (cc) (cc) (cc) (cc) in
    λ i. record { standing = ht i; lookahead = hl i; key = hk i; slot = hs i; index = hi i } ∷ tail i

module _ {P K : Type 0} (rs ss : List (Record P K)) (m : ℕ) where
  same_from : {X : Type 0} (f : Record P K → X) → drop m (map f ss) ≡ drop m (map f rs) → map f (drop m ss) ≡ map f (drop m rs)
  same_from f e = sym (drop-map f m ss) ∙ e ∙ drop-map f m rs

  -- two writes below m
  twice : {X : Type 0} (xs ys : List X) (i j : ℕ) (x y : X) → ys ≡ set (set xs i x) j y → i < m → j < m → drop m ys ≡ drop m xs
  twice xs ys i j x y e li lj = ap (drop m) e ∙ drop-set-lt m (set xs i x) j y lj ∙ drop-set-lt m xs i x li

  once : {X : Type 0} (xs ys : List X) (i : ℕ) (x : X) → ys ≡ set xs i x → i < m → drop m ys ≡ drop m xs
  once xs ys i x e l = ap (drop m) e ∙ drop-set-lt m xs i x l

  columns_past : drop m (slots ss) ≡ drop m (slots rs) → drop m (indexes ss) ≡ drop m (indexes rs) → drop m (keys ss) ≡ drop m (keys rs) → standings ss ≡ standings rs → lookaheads ss ≡ lookaheads rs → SamePast rs ss m
  columns_past es ei ek et el = same_records (drop m rs) (drop m ss) (same_from (λ r. r.slot) es) (same_from (λ r. r.index) ei) (same_from (λ r. r.key) ek)
      (same_from (λ r. r.standing) (ap (drop m) et)) (same_from (λ r. r.lookahead) (ap (drop m) el))

  pub swap_past : (a b : ℕ) → Exchanged rs ss a b → a < m → b < m → in_slot rs a < m → in_slot rs b < m → SamePast rs ss m
  swap_past a b x la lb lp lq = columns_past
      (twice (slots rs) (slots ss) a b _ _ x.slots_are la lb)
      (twice (indexes rs) (indexes ss) (in_slot rs b) (in_slot rs a) _ _ x.indexes_are lq lp)
      (ap (drop m) x.kept.0) x.kept.1 x.kept.2

  -- another key for place p below m
  module _ (p : ℕ) (key : K) (k : Rekeyed rs ss p key) (l : p < m) where
    pub key_past : slots ss ≡ slots rs → indexes ss ≡ indexes rs → SamePast rs ss m
    key_past es ei = columns_past (ap (drop m) es) (ap (drop m) ei) (once (keys rs) (keys ss) p key k.0 l) k.1 k.2

    -- and slot n below m with it
    pub insert_past : (n : ℕ) → n < m → slots ss ≡ set (slots rs) n p → indexes ss ≡ set (indexes rs) p n → SamePast rs ss m
    insert_past n ln es ei = columns_past (once (slots rs) (slots ss) n p es ln) (once (indexes rs) (indexes ss) p n ei l) (once (keys rs) (keys ss) p key k.0 l) k.1 k.2
