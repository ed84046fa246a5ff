-- What is kept of a place: when it is right, when it stays right, and when the bench is up to date after one update.
use Rattle.std.proofs.Common.{◌≡◌, ℕ, ◌<◌, true, false, List, length, get_or, set, sym, refl, ap, ◌∙◌, subst, ⊎_elim, arith}
use Rattle.std.proofs.lemmas.List.{get_or-set_same}
use Rattle.std.proofs.lemmas.Bool.{both_ways, cases_eq}
use Rattle.rows.specs.Rows.{Price, closed, smaller}
use Rattle.rows.specs.Keys.{Key}
use Rattle.chart.specs.Meaning.{Meaning, places}
use Rattle.lifelong.specs.Standings.{key, key_for, lookahead, standing_at, uneven}
use Rattle.lpa_star.specs.Memory.{InHeapOrder, Memory, Waiting, key_kept}
use Rattle.lpa_star.specs.UpToDate.{Right, RightAt, SameAt, UpToDate}
use Rattle.lpa_star.proofs.Keys.{key_by, uneven_by}

-- a place that has just been looked at, queued or not
module _ (m : Meaning) (gs ls ms : List Price) (p : ℕ) (a : Price) (long : p < length ls) (el : ms ≡ set ls p a) (ea : a ≡ lookahead m gs p) where
  looked : get_or ms p closed ≡ lookahead m gs p
  looked = ap (λ xs. get_or xs p closed) el ∙ get_or-set_same ls p a closed long ∙ ea

  pub right_uneven : (ks js : List Key) (Q : ℕ → Type 0) (k : Key) → p < length ks → js ≡ set ks p k → k ≡ key m gs p → Q p → uneven m gs p ≡ true → Right m gs ms js Q p
  right_uneven ks js Q k wide ek er q u = record {
    look = looked;
    queued = λ t. q;
    even = λ f h. both_ways (uneven m gs p) f u;
    keyed = λ h. ap (λ xs. key_kept xs p) ek ∙ get_or-set_same ks p k _ wide ∙ er;
  }

  pub right_even : (js : List Key) (Q : ℕ → Type 0) → (Q p → ⊥) → uneven m gs p ≡ false → Right m gs ms js Q p
  right_even js Q q u = record {
    look = looked;
    queued = λ t. absurd (both_ways (uneven m gs p) u t);
    even = λ f h. q h;
    keyed = λ h. absurd (q h);
  }

-- what is right stays right where nothing that it hangs on changes
module _ (m k : Meaning) (d e : Memory) (q : ℕ) (es : standing_at e.standings q ≡ standing_at d.standings q)
    (el : lookahead k e.standings q ≡ lookahead m d.standings q) (ek : (s : Price) → key_for k q s ≡ key_for m q s) where
  same_uneven : uneven k e.standings q ≡ uneven m d.standings q
  same_uneven = sym (uneven_by k e.standings q (standing_at e.standings q) (lookahead k e.standings q) refl refl)
      ∙ uneven_by m d.standings q (standing_at e.standings q) (lookahead k e.standings q) es el

  same_key : key k e.standings q ≡ key m d.standings q
  same_key =
      let s = standing_at e.standings q in
      let a = lookahead k e.standings q in
      let x = smaller s a in
      sym (key_by k e.standings q s a refl refl x (key_for k q x) refl refl) ∙ ek x ∙ key_by m d.standings q s a es el x (key_for m q x) refl refl

  pub right_kept : SameAt d e q → RightAt m d q → RightAt k e q
  right_kept s r = record {
    look = s.look ∙ r.look ∙ sym el;
    queued = λ t. s.into (r.queued (sym same_uneven ∙ t));
    even = λ f h. r.even (sym same_uneven ∙ f) (s.out h);
    keyed = λ h. s.key ∙ r.keyed (s.out h) ∙ sym same_key;
  }

-- place p was put right, and nothing else was changed
pub record Updated (m : Meaning) (d e : Memory) (p : ℕ) : Type 0 where
  pub standings : e.standings ≡ d.standings
  pub right : RightAt m e p
  pub others : (q : ℕ) → (q ≡ p → ⊥) → SameAt d e q
  pub order : InHeapOrder d → InHeapOrder e

module _ (m : Meaning) (d e : Memory) (p : ℕ) (u : Updated m d e p) where
  pub other_right : (q : ℕ) → (q ≡ p → ⊥) → RightAt m d q → RightAt m e q
  other_right q ne r = right_kept m m d e q (ap (λ gs. standing_at gs q) u.standings) (ap (λ gs. lookahead m gs q) u.standings) (λ s. refl) (u.others q ne) r

  pub each_right : (q : ℕ) → ((q ≡ p → ⊥) → RightAt m d q) → RightAt m e q
  each_right q h = ⊎_elim
      (λ (same : q ≡ p). subst (RightAt m e) (sym same) u.right)
      (λ (ne : q ≡ p → ⊥). other_right q ne (h ne)) (cases_eq q p)

  pub still_inside : p < places m → ((q : ℕ) → Waiting d q → q < places m) → (q : ℕ) → Waiting e q → q < places m
  still_inside l h q w = ⊎_elim (λ (same : q ≡ p). omega arith) (λ (ne : q ≡ p → ⊥). h q ((u.others q ne).out w)) (cases_eq q p)

  -- where all but place p is right already
  pub up_to_date : p < places m → ((q : ℕ) → q < places m → (q ≡ p → ⊥) → RightAt m d q) → ((q : ℕ) → Waiting d q → q < places m) →
      InHeapOrder d → UpToDate m e
  up_to_date l h i o = record { right = λ q lq. each_right q (h q lq); inside = still_inside l i; sorted = u.order o }
