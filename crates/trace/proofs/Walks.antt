-- The walk back as a loop counts it.
use Rattle.std.proofs.Common.{◌≡◌, ℕ, suc, ◌+◌, ◌-◌, ◌<◌, ◌≤◌, Bool, true, false, cond, eqb, List, [], ◌∷◌, reverse, length, Some, None, Option, sym, refl, ap, ◌∙◌, arith}
use Rattle.std.proofs.lemmas.List.{length-reverse}
use Rattle.std.proofs.lemmas.Bool.{cond-false, ne_eqb}
use Rattle.rows.specs.Rows.{Price, is_open}
use Rattle.chart.specs.Meaning.{Meaning}
use Rattle.lifelong.specs.Trace.{Move, move, moving, onto, traced, walk}
use Rattle.lifelong.proofs.Traces.{walk_at_start, walk_away}
use Rattle.trace.specs.Lengths.{route_length}
use Rattle.trace.specs.Moves.{before_on_the_way, led_to}

-- a place before the way back from the place that a move leads to
abbrev pub leading : ℕ → Option ℕ → (ℕ → Option (List ℕ)) → Option (List ℕ)
leading x None rest = None
leading x (Some y) rest = onto x (rest y)

leading_cond : (b : Bool) (x y : ℕ) (rest : ℕ → Option (List ℕ)) → cond b (onto x (rest y)) None ≡ leading x (cond b (Some y) None) rest
leading_cond true x y rest = refl
leading_cond false x y rest = refl

moving_leads : (x : ℕ) (a : Option Move) (rest : ℕ → Option (List ℕ)) → moving x a rest ≡ leading x (led_to a) rest
moving_leads x None rest = refl
moving_leads x (Some a) rest = leading_cond (is_open a.cost) x a.from rest

-- how many places, with s more
abbrev pub counted : ℕ → Option (List ℕ) → Option ℕ
counted s None = None
counted s (Some ps) = Some (s + length ps)

counted_none : (o : Option (List ℕ)) → route_length (traced o) ≡ counted 0 o
counted_none None = refl
counted_none (Some ps) = let e : length (reverse ps) ≡ 0 + length ps = omega (arith, length-reverse ps) in ap Some e

counted_onto : (s x : ℕ) (o : Option (List ℕ)) → counted s (onto x o) ≡ counted (s + 1) o
counted_onto s x None = refl
counted_onto s x (Some ps) = let e : s + suc (length ps) ≡ s + 1 + length ps = omega arith in ap Some e

module _ (m : Meaning) (gs : List Price) where
  pub walk_spent : (x : ℕ) → (x ≡ m.start → ⊥) → walk m gs 0 x ≡ None
  unfolding walk
  walk_spent x u = cond-false (eqb x m.start) (Some (x ∷ [])) None (ne_eqb x m.start u)

  pub walk_leads : (n x : ℕ) → (x ≡ m.start → ⊥) → walk m gs (suc n) x ≡ leading x (before_on_the_way m gs x) (λ y. walk m gs n y)
  walk_leads n x u = walk_away m gs n x u ∙ moving_leads x (move m gs x) (λ y. walk m gs n y)

  -- all places are those counted in s of n moves, and those of the way back from x; the rest is what the loop's ends ask
  pub record Counting (s n x : ℕ) (all : Option ℕ) : Type 0 where
    pub is : all ≡ counted s (walk m gs (n - s) x)
    pub arrived : x ≡ m.start → Some (s + 1) ≡ all
    pub spent : n ≤ s → (x ≡ m.start → ⊥) → None ≡ all
    pub lost : s < n → (x ≡ m.start → ⊥) → None ≡ before_on_the_way m gs x → None ≡ all

  module _ (s n x : ℕ) (all : Option ℕ) (is : all ≡ counted s (walk m gs (n - s) x)) where
    away : s < n → (x ≡ m.start → ⊥) → (o : Option ℕ) → o ≡ before_on_the_way m gs x → all ≡ counted s (leading x o (λ y. walk m gs (n - (s + 1)) y))
    away l u o e =
        let w : n - s ≡ suc (n - (s + 1)) = omega arith in
        is ∙ ap (λ i. counted s (walk m gs i x)) w ∙ ap (counted s) (walk_leads (n - (s + 1)) x u)
        ∙ ap (λ z. counted s (leading x z (λ y. walk m gs (n - (s + 1)) y))) (sym e)

    no_moves : n ≤ s → (x ≡ m.start → ⊥) → None ≡ all
    no_moves l u = let w : n - s ≡ 0 = omega arith in sym (is ∙ ap (λ i. counted s (walk m gs i x)) w ∙ ap (counted s) (walk_spent x u))

    counting : Counting s n x all
    counting = record {
      is = is;
      arrived = λ e. sym (is ∙ ap (counted s) (walk_at_start m gs (n - s) x e));
      spent = no_moves;
      lost = λ l u e. sym (away l u None e);
    }

  -- before the first move
  pub set_out : (n x goal : ℕ) → x ≡ goal → Counting 0 n x (route_length (traced (walk m gs n goal)))
  set_out n x goal e =
      let w : n ≡ n - 0 = omega arith in
      counting 0 n x (route_length (traced (walk m gs n goal)))
      (counted_none (walk m gs n goal) ∙ (λ i. counted 0 (walk m gs (w i) (sym e i))))

  -- a move
  pub move_on : (s n x y : ℕ) (all : Option ℕ) → Counting s n x all → s < n → (x ≡ m.start → ⊥) → Some y ≡ before_on_the_way m gs x → Counting (s + 1) n y all
  move_on s n x y all h l u e =
      counting (s + 1) n y all (away s n x all h.is l u (Some y) e ∙ counted_onto s x (walk m gs (n - (s + 1)) y))
