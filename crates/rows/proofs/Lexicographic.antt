-- A test that decides, and another where it ties: what both keep, the two in turn keep.
use Rattle.std.proofs.Common.{◌≡◌, Bool, true, false, cond, ◌⊎◌, refl, ◌∙◌, inl, inr, ⊎_elim}
use Rattle.std.proofs.lemmas.Bool.{both_ways, cases_Bool, cond-false, cond-true}
use Rattle.rows.specs.Keys.{in_turn}

-- what a comparison that failed, or that held, says
pub in_turn_failed : (t u w : Bool) → in_turn t u w ≡ false → (t ≡ false) × ((u ≡ true) ⊎ (w ≡ false))
in_turn_failed true u w h = absurd (both_ways true h refl)
in_turn_failed false true w h = (refl, inl refl)
in_turn_failed false false w h = (refl, inr h)

pub in_turn_fails : (t u w : Bool) → t ≡ false → (u ≡ true) ⊎ (w ≡ false) → in_turn t u w ≡ false
in_turn_fails true u w e h = e
in_turn_fails false true w e h = refl
in_turn_fails false false w e h = ⊎_elim (λ b. absurd (both_ways false refl b)) (λ b. b) h

pub in_turn_held : (t u w : Bool) → in_turn t u w ≡ true → (t ≡ true) ⊎ ((u ≡ false) × (w ≡ true))
in_turn_held true u w h = inl refl
in_turn_held false true w h = absurd (both_ways false refl h)
in_turn_held false false w h = inr (refl, h)

pub in_turn_yes : (t u w : Bool) → t ≡ true → in_turn t u w ≡ true
in_turn_yes t u w e = cond-true t true (cond u false w) e

pub in_turn_no : (t u w : Bool) → t ≡ false → u ≡ true → in_turn t u w ≡ false
in_turn_no t u w e d = cond-false t true (cond u false w) e ∙ cond-true u false w d

pub in_turn_tie : (t u w : Bool) → t ≡ false → u ≡ false → in_turn t u w ≡ w
in_turn_tie t u w e d = cond-false t true (cond u false w) e ∙ cond-false u false w d

-- not before, and not before in turn: not before
abbrev pub Chains : {A : Type 0} → (A → A → Bool) → Type 0
Chains {A} t = (a b c : A) → t b a ≡ false → t c b ≡ false → t c a ≡ false

abbrev pub OneWay : {A : Type 0} → (A → A → Bool) → Type 0
OneWay {A} t = (a b : A) → t a b ≡ true → t b a ≡ false

module _ {A : Type 0} (t u : A → A → Bool) where
  pub lex_chain : Chains t → Chains u → Chains (λ a b. in_turn (t a b) (t b a) (u a b))
  lex_chain tc uc a b c x y =
      let s = in_turn_failed (t b a) (t a b) (u b a) x in
      let r = in_turn_failed (t c b) (t b c) (u c b) y in
      in_turn_fails (t c a) (t a c) (u c a) (tc a b c s.0 r.0) (⊎_elim
      (λ (e : t a c ≡ true). inl e)
      (λ (e : t a c ≡ false). ⊎_elim
      (λ (ab : t a b ≡ true). absurd (both_ways (t a b) (tc b c a r.0 e) ab))
      (λ (uba : u b a ≡ false). ⊎_elim
      (λ (bc : t b c ≡ true). absurd (both_ways (t b c) (tc c a b e s.0) bc))
      (λ (ucb : u c b ≡ false). inr (uc a b c uba ucb)) r.1) s.1) (cases_Bool (t a c)))

  pub lex_one_way : OneWay t → OneWay u → OneWay (λ a b. in_turn (t a b) (t b a) (u a b))
  lex_one_way tw uw a b h = ⊎_elim
      (λ (l : t a b ≡ true). in_turn_fails (t b a) (t a b) (u b a) (tw a b l) (inl l))
      (λ (w : (t b a ≡ false) × (u a b ≡ true)). in_turn_fails (t b a) (t a b) (u b a) w.0 (inr (uw a b w.1))) (in_turn_held (t a b) (t b a) (u a b) h)
