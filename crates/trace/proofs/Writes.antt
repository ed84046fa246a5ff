-- The way back as it is written, from its end.
use Rattle.std.proofs.Common.{◌≡◌, ℕ, zero, suc, ◌+◌, ◌≤◌, List, [], ◌∷◌, reverse, length, set, Some, None, Option, sym, refl, ap, ◌∙◌, ⊎_elim, arith}
use Rattle.std.proofs.lemmas.List.{length-reverse}
use Rattle.std.proofs.lemmas.Bool.{cases_eq}
use Rattle.rows.specs.Rows.{Price}
use Rattle.chart.specs.Meaning.{Meaning}
use Rattle.lifelong.specs.Trace.{onto, shows, traced, walk}
use Rattle.lifelong.proofs.Traces.{walk_at_start}
use Rattle.trace.specs.Answers.{written}
use Rattle.trace.specs.Lengths.{route_length}
use Rattle.trace.specs.Moves.{before_on_the_way}
use Rattle.trace.proofs.Laid.{laid, laid_written}
use Rattle.trace.proofs.Walks.{leading, walk_leads, walk_spent}

none_some : {A : Type 0} (a : A) → ◌≡◌ {A = Option A} None (Some a) → ⊥
none_some a e = let z : ◌≡◌ {A = ℕ} 0 1 = cc in omega arith

-- a way back begins at its place

abbrev Begins : ℕ → List ℕ → Type 0
Begins x ps = (qs : List ℕ) × (ps ≡ x ∷ qs)

onto_begins : (x : ℕ) (o : Option (List ℕ)) (ps : List ℕ) → onto x o ≡ Some ps → Begins x ps
onto_begins x None ps e = absurd (none_some ps e)
onto_begins x (Some qs) ps e = (qs, cc)

leading_begins : (x : ℕ) (o : Option ℕ) (rest : ℕ → Option (List ℕ)) (ps : List ℕ) → leading x o rest ≡ Some ps → Begins x ps
leading_begins x None rest ps e = absurd (none_some ps e)
leading_begins x (Some y) rest ps e = onto_begins x (rest y) ps e

module _ (m : Meaning) (gs : List Price) where
  at_start_begins : (n x : ℕ) (ps : List ℕ) → walk m gs n x ≡ Some ps → x ≡ m.start → ps ≡ x ∷ []
  at_start_begins n x ps e s = let a = walk_at_start m gs n x s in cc

  walk_begins : (n x : ℕ) (ps : List ℕ) → walk m gs n x ≡ Some ps → Begins x ps
  walk_begins zero x ps e = ⊎_elim (λ (s : x ≡ m.start). ([], at_start_begins 0 x ps e s))
      (λ (u : x ≡ m.start → ⊥). absurd (none_some ps (sym (walk_spent m gs x u) ∙ e))) (cases_eq x m.start)
  walk_begins (suc n) x ps e = ⊎_elim (λ (s : x ≡ m.start). ([], at_start_begins (suc n) x ps e s))
      (λ (u : x ≡ m.start → ⊥). leading_begins x (before_on_the_way m gs x) (λ y. walk m gs n y) ps (sym (walk_leads m gs n x u) ∙ e)) (cases_eq x m.start)

  -- one of several places is left by a move
  walk_on : (n x : ℕ) (ps : List ℕ) → walk m gs n x ≡ Some ps → 2 ≤ length ps →
      (i : ℕ) × (leading x (before_on_the_way m gs x) (λ y. walk m gs i y) ≡ Some ps)
  walk_on n x ps e l = at n e
    where
      away : (i : ℕ) → walk m gs i x ≡ Some ps → x ≡ m.start → ⊥
      away i d s = let q = ap length (at_start_begins i x ps d s) in omega arith

      at : (i : ℕ) → walk m gs i x ≡ Some ps → (i : ℕ) × (leading x (before_on_the_way m gs x) (λ y. walk m gs i y) ≡ Some ps)
      at zero d = absurd (none_some ps (sym (walk_spent m gs x (away 0 d)) ∙ d))
      at (suc i) d = (i, sym (walk_leads m gs i x (away (suc i) d)) ∙ d)

  -- from place x so many places are left to write, which makes the buffer done; the rest is what the last write asks
  pub record Left (x left : ℕ) (out done : List ℕ) : Type 0 where
    pub moves : ℕ
    pub rest : List ℕ
    pub is : walk m gs moves x ≡ Some rest
    pub long : length rest ≡ left
    pub gives : laid rest out ≡ done
    pub some : 1 ≤ left
    pub last : left ≤ 1 → set out 0 x ≡ done

  module _ (x left : ℕ) (out done : List ℕ) where
    left_by : (n : ℕ) (ps : List ℕ) → walk m gs n x ≡ Some ps → length ps ≡ left → laid ps out ≡ done → Left x left out done
    left_by n ps e l s = at (walk_begins n x ps e)
      where
        last_of : (qs : List ℕ) → ps ≡ x ∷ qs → left ≤ 1 → set out 0 x ≡ done
        last_of [] q h = ap (λ z. laid z out) (sym q) ∙ s
        last_of (y ∷ qs) q h = absurd (let z = ap length q in omega arith)

        at : Begins x ps → Left x left out done
        at b = record {
          moves = n;
          rest = ps;
          is = e;
          long = l;
          gives = s;
          some = let z = ap length b.1 in omega arith;
          last = last_of b.0 b.1;
        }

  -- before the first place is written
  pub all_left : (n x goal count : ℕ) (out : List ℕ) → x ≡ goal → route_length (traced (walk m gs n goal)) ≡ Some count → count ≤ length out →
      Left x count out (written (traced (walk m gs n goal)) out)
  all_left n x goal count out f c l = at (walk m gs n goal) (ap (walk m gs n) f) c
    where
      at : (o : Option (List ℕ)) → walk m gs n x ≡ o → route_length (traced o) ≡ Some count → Left x count out (written (traced o) out)
      at None e d = absurd (none_some count d)
      at (Some ps) e d =
          let long : length ps ≡ count = let z : length (reverse ps) ≡ count = cc in sym (length-reverse ps) ∙ z in
          left_by x count out (written (shows (reverse ps)) out) n ps e long (laid_written ps out (omega arith))

  module _ (x left : ℕ) (out done : List ℕ) where
    onto_left : (n y : ℕ) (o : Option (List ℕ)) (ps : List ℕ) → walk m gs n y ≡ o → onto x o ≡ Some ps → length ps ≡ left + 1 → laid ps out ≡ done →
        Left y left (set out left x) done
    onto_left n y None ps e d l s = absurd (none_some ps d)
    onto_left n y (Some qs) ps e d l s =
        let q : ps ≡ x ∷ qs = cc in
        let long : length qs ≡ left = let z = ap length q in omega arith in
        left_by y left (set out left x) done n qs e long (sym (ap (λ i. laid qs (set out i x)) long) ∙ ap (λ z. laid z out) (sym q) ∙ s)

    -- a place is written, and a move leads on
    pub one_written : Left x (left + 1) out done → 1 ≤ left → (y : ℕ) → Some y ≡ before_on_the_way m gs x → Left y left (set out left x) done
    one_written h l y e =
        let long = h.long in
        let w = walk_on h.moves x h.rest h.is (omega arith) in
        onto_left w.0 y (walk m gs w.0 y) h.rest refl (ap (λ o. leading x o (λ z. walk m gs w.0 z)) e ∙ w.1) h.long h.gives

    pub leads_on : Left x (left + 1) out done → 1 ≤ left → None ≡ before_on_the_way m gs x → ⊥
    leads_on h l e =
        let long = h.long in
        let w = walk_on h.moves x h.rest h.is (omega arith) in
        none_some h.rest (ap (λ o. leading x o (λ z. walk m gs w.0 z)) e ∙ w.1)
