-- The move from a place is the nearest over the links into it.
use Rattle.std.proofs.Common.{◌≡◌, ℕ, zero, suc, ◌+◌, ◌≤◌, Bool, true, false, cond, ltb, List, [], ◌∷◌, get_or, Some, None, Option, sym, refl, ap, ◌∙◌, subst, ⊎_elim, arith}
use Rattle.std.proofs.lemmas.Bool.{both_ways, cases_Bool, cond-false, cond-true, eq-eqb, eqb-true, le-ltb, ltb-false, ltb-true}
use Rattle.rows.specs.Rows.{Kind, Price, less, sum}
use Rattle.rows.specs.Keys.{in_turn}
use Rattle.rows.proofs.Lexicographic.{Chains, OneWay, in_turn_failed, lex_chain, lex_one_way}
use Rattle.rows.proofs.Order.{less_chain, less_one_way, less_self}
use Rattle.chart.specs.Meaning.{Link, Meaning, link_at}
use Rattle.chart.specs.Questions.{leads_into}
use Rattle.lifelong.specs.Standings.{standing_at}
use Rattle.lifelong.specs.Trace.{Move, best_move, move, move_over, nearer, nearest}

-- the order of moves

abbrev by_cost : Move → Move → Bool
by_cost a b = less a.cost b.cost

abbrev by_from : Move → Move → Bool
by_from a b = ltb a.from b.from

abbrev by_number : Move → Move → Bool
by_number a b = ltb a.number b.number

abbrev by_place : Move → Move → Bool
by_place a b = in_turn (by_from a b) (by_from b a) (by_number a b)

ltb_chain : (x y z : ℕ) → ltb y x ≡ false → ltb z y ≡ false → ltb z x ≡ false
ltb_chain x y z p q = le-ltb z x (omega (arith, ltb-false y x p, ltb-false z y q))

ltb_one_way : (x y : ℕ) → ltb x y ≡ true → ltb y x ≡ false
ltb_one_way x y p = le-ltb y x (omega (arith, ltb-true x y p))

pub nearer_chain : Chains nearer
nearer_chain = lex_chain by_cost by_place (λ a b c. less_chain a.cost b.cost c.cost)
    (lex_chain by_from by_number (λ a b c. ltb_chain a.from b.from c.from) (λ a b c. ltb_chain a.number b.number c.number))

pub nearer_one_way : OneWay nearer
nearer_one_way = lex_one_way by_cost by_place (λ a b. less_one_way a.cost b.cost)
    (lex_one_way by_from by_number (λ a b. ltb_one_way a.from b.from) (λ a b. ltb_one_way a.number b.number))

nearer_self : (a : Move) → nearer a a ≡ false
nearer_self a = ⊎_elim (λ t. nearer_one_way a a t) (λ f. f) (cases_Bool (nearer a a))

-- what is not nearer costs no less, and at equal cost has no lower from place
pub not_nearer : (a b : Move) → nearer a b ≡ false → (less a.cost b.cost ≡ false) × (a.cost ≡ b.cost → b.from ≤ a.from)
not_nearer a b h =
    let s = in_turn_failed (by_cost a b) (by_cost b a) (by_place a b) h in (
      s.0,
      λ e. ⊎_elim
          (λ (t : by_cost b a ≡ true). absurd (both_ways (by_cost b a) (ap (λ p. less b.cost p) e ∙ less_self b.cost) t))
          (λ (t : by_place a b ≡ false). ltb-false a.from b.from (in_turn_failed (by_from a b) (by_from b a) (by_number a b) t).0) s.1,
    )

-- the nearest of a list, where the first link has number n

abbrev pub move_of : Kind → List Price → ℕ → Link → Move
move_of k gs n l = record { number = n; from = l.from; cost = sum k (standing_at gs l.from) l.price }

module _ (k : Kind) (gs : List Price) (x : ℕ) where
  record Found (n : ℕ) (ls : List (Option Link)) (a : Move) : Type 0 where
    at : ℕ
    link : Link
    named : get_or ls at None ≡ Some link
    leads : leads_into x (Some link) ≡ true
    is : a ≡ move_of k gs (n + at) link
    first : (j : ℕ) (l : Link) → get_or ls j None ≡ Some l → leads_into x (Some l) ≡ true → nearer (move_of k gs (n + j) l) a ≡ false

  abbrev Best : ℕ → List (Option Link) → Option Move → Type 0
  Best n ls None = (j : ℕ) (l : Link) → get_or ls j None ≡ Some l → leads_into x (Some l) ≡ true → ⊥
  Best n ls (Some a) = Found n ls a

  shift : (n j : ℕ) → suc n + j ≡ n + suc j
  shift n j = omega arith

  passed : (n : ℕ) (o : Option Link) (ls : List (Option Link)) (a : Option Move) → leads_into x o ≡ false → Best (suc n) ls a → Best n (o ∷ ls) a
  passed n o ls None f h = λ j. at j
    where
      at : (j : ℕ) (l : Link) → get_or (o ∷ ls) j None ≡ Some l → leads_into x (Some l) ≡ true → ⊥
      at zero l e t = both_ways (leads_into x (Some l)) (ap (leads_into x) (sym e) ∙ f) t
      at (suc j) l e t = h j l e t
  passed n o ls (Some a) f h = record {
    at = suc h.at;
    link = h.link;
    named = h.named;
    leads = h.leads;
    is = h.is ∙ ap (λ i. move_of k gs i h.link) (shift n h.at);
    first = λ j. at j;
  }
    where
      at : (j : ℕ) (l : Link) → get_or (o ∷ ls) j None ≡ Some l → leads_into x (Some l) ≡ true → nearer (move_of k gs (n + j) l) a ≡ false
      at zero l e t = absurd (both_ways (leads_into x (Some l)) (ap (leads_into x) (sym e) ∙ f) t)
      at (suc j) l e t = ap (λ i. nearer (move_of k gs i l) a) (sym (shift n j)) ∙ h.first j l e t

  -- the first link's move, where those of the others are not nearer
  head_first : (n : ℕ) (l : Link) (ls : List (Option Link)) → leads_into x (Some l) ≡ true →
      ((j : ℕ) (i : Link) → get_or ls j None ≡ Some i → leads_into x (Some i) ≡ true → nearer (move_of k gs (suc n + j) i) (move_of k gs n l) ≡ false) →
      Found n (Some l ∷ ls) (move_of k gs n l)
  head_first n l ls t h = record {
    at = 0;
    link = l;
    named = refl;
    leads = t;
    is = ap (λ i. move_of k gs i l) (let z : n ≡ n + 0 = omega arith in z);
    first = λ j. at j;
  }
    where
      at : (j : ℕ) (i : Link) → get_or (Some l ∷ ls) j None ≡ Some i → leads_into x (Some i) ≡ true → nearer (move_of k gs (n + j) i) (move_of k gs n l) ≡ false
      at zero i e s =
          let q : i ≡ l = cc in
          let z : n + 0 ≡ n = omega arith in
          (λ c. nearer (move_of k gs (z c) (q c)) (move_of k gs n l)) ∙ nearer_self (move_of k gs n l)
      at (suc j) i e s = ap (λ c. nearer (move_of k gs c i) (move_of k gs n l)) (sym (shift n j)) ∙ h j i e s

  chosen : (n : ℕ) (l : Link) (ls : List (Option Link)) (a : Move) (b : Bool) → nearer a (move_of k gs n l) ≡ b → leads_into x (Some l) ≡ true →
      Found (suc n) ls a → Found n (Some l ∷ ls) (cond b a (move_of k gs n l))
  chosen n l ls a true e t h = record {
    at = suc h.at;
    link = h.link;
    named = h.named;
    leads = h.leads;
    is = h.is ∙ ap (λ i. move_of k gs i h.link) (shift n h.at);
    first = λ j. at j;
  }
    where
      at : (j : ℕ) (i : Link) → get_or (Some l ∷ ls) j None ≡ Some i → leads_into x (Some i) ≡ true → nearer (move_of k gs (n + j) i) a ≡ false
      at zero i d s =
          let q : i ≡ l = cc in
          let z : n + 0 ≡ n = omega arith in
          (λ c. nearer (move_of k gs (z c) (q c)) a) ∙ nearer_one_way a (move_of k gs n l) e
      at (suc j) i d s = ap (λ c. nearer (move_of k gs c i) a) (sym (shift n j)) ∙ h.first j i d s
  chosen n l ls a false e t h = head_first n l ls t (λ j i d s. nearer_chain (move_of k gs n l) a (move_of k gs (suc n + j) i) e (h.first j i d s))

  some_cond : (b : Bool) (a c : Move) → cond b (Some a) (Some c) ≡ Some (cond b a c)
  some_cond true a c = refl
  some_cond false a c = refl

  taken : (n : ℕ) (l : Link) (ls : List (Option Link)) (o : Option Move) → leads_into x (Some l) ≡ true → Best (suc n) ls o →
      Best n (Some l ∷ ls) (nearest (Some (move_of k gs n l)) o)
  taken n l ls None t h = head_first n l ls t (λ j i d s. absurd (h j i d s))
  taken n l ls (Some a) t h = subst (Best n (Some l ∷ ls)) (sym (some_cond (nearer a (move_of k gs n l)) a (move_of k gs n l)))
      (chosen n l ls a (nearer a (move_of k gs n l)) refl t h)

  pub move_skip : (n : ℕ) (o : Option Link) (ls : List (Option Link)) → leads_into x o ≡ false → best_move k gs x n (o ∷ ls) ≡ best_move k gs x (suc n) ls
  unfolding best_move
  move_skip n o ls f = cond-false (leads_into x o) (nearest (move_over k gs n o) (best_move k gs x (suc n) ls)) (best_move k gs x (suc n) ls) f

  pub move_take : (n : ℕ) (o : Option Link) (ls : List (Option Link)) → leads_into x o ≡ true →
      best_move k gs x n (o ∷ ls) ≡ nearest (move_over k gs n o) (best_move k gs x (suc n) ls)
  unfolding best_move
  move_take n o ls t = cond-true (leads_into x o) (nearest (move_over k gs n o) (best_move k gs x (suc n) ls)) (best_move k gs x (suc n) ls) t

  best : (n : ℕ) (ls : List (Option Link)) → Best n ls (best_move k gs x n ls)
  unfolding best_move
  best n [] = λ j l e t. let z : ◌≡◌ {A = ℕ} 0 1 = cc in omega arith
  best n (None ∷ ls) = passed n None ls (best_move k gs x (suc n) ls) refl (best (suc n) ls)
  best n (Some l ∷ ls) = ⊎_elim
      (λ (t : leads_into x (Some l) ≡ true). subst (Best n (Some l ∷ ls)) (sym (move_take n (Some l) ls t))
      (taken n l ls (best_move k gs x (suc n) ls) t (best (suc n) ls)))
      (λ (f : leads_into x (Some l) ≡ false). subst (Best n (Some l ∷ ls)) (sym (move_skip n (Some l) ls f))
      (passed n (Some l) ls (best_move k gs x (suc n) ls) f (best (suc n) ls)))
      (cases_Bool (leads_into x (Some l)))

-- a move, the link that it takes, and that no other link into the place is nearer
pub record Nearest (m : Meaning) (gs : List Price) (x : ℕ) (a : Move) : Type 0 where
  pub number : ℕ
  pub link : Link
  pub named : link_at m number ≡ Some link
  pub to_is : link.to ≡ x
  pub is : a ≡ move_of m.kind gs number link
  pub first : (n : ℕ) (l : Link) → link_at m n ≡ Some l → l.to ≡ x → nearer (move_of m.kind gs n l) a ≡ false

module _ (m : Meaning) (gs : List Price) (x : ℕ) where
  pub no_move : move m gs x ≡ None → (n : ℕ) (l : Link) → link_at m n ≡ Some l → l.to ≡ x → ⊥
  no_move e n l d t = subst (Best m.kind gs x 0 m.links) e (best m.kind gs x 0 m.links) n l d (eq-eqb l.to x t)

  pub the_move : (a : Move) → move m gs x ≡ Some a → Nearest m gs x a
  the_move a e =
      let h : Found m.kind gs x 0 m.links a = subst (Best m.kind gs x 0 m.links) e (best m.kind gs x 0 m.links) in
      let same : (j : ℕ) → 0 + j ≡ j = λ j. omega arith in
      record {
        number = h.at;
        link = h.link;
        named = h.named;
        to_is = eqb-true h.link.to x h.leads;
        is = h.is ∙ ap (λ i. move_of m.kind gs i h.link) (same h.at);
        first = λ n l d t. ap (λ i. nearer (move_of m.kind gs i l) a) (sym (same n)) ∙ h.first n l d (eq-eqb l.to x t);
      }
