-- The price of a list of places, and the chain that has it.
use Rattle.std.proofs.Common.{◌≡◌, ℕ, ◌≤◌, true, false, eqb, List, [], ◌∷◌, ◌++◌, reverse, Some, None, Option, sym, refl, ap, ◌∙◌, subst, arith}
use mathlib.Core.List.{reverse_aux-eq}
use Rattle.std.proofs.lemmas.Bool.{and_from, and_parts, both_ways, eq-eqb, eqb-true}
use Rattle.rows.specs.Rows.{Price, Proper, is_open, sum, zero_of}
use Rattle.rows.proofs.Order.{less_total}
use Rattle.rows.proofs.Sums.{sum_assoc, sum_comm, sum_proper}
use Rattle.rows.proofs.Numbers.{below_top_is_open, not_less_rank, rank, rank_not_less, rank_open}
use Rattle.chart.specs.Lawful.{Lawful}
use Rattle.chart.specs.Meaning.{Link, Meaning, link_at}
use Rattle.chart.specs.Routes.{Among, Chain, TrueDistance, begin, cheapest, joins, more, places_price, price_along, link_price}
use Rattle.chart.proofs.Chains.{chain_head, chain_proper, chain_within}
use Rattle.chart.proofs.Least.{least_all, least_below, least_met}
use Rattle.chart.proofs.Limits.{link_sum, price_proper, zero_proper}

-- one link that joins a to b, at the price p
record Joining (m : Meaning) (a b : ℕ) (p : Price) : Type 0 where
  number : ℕ
  link : Link
  named : link_at m number ≡ Some link
  from_is : link.from ≡ a
  to_is : link.to ≡ b
  price_is : link.price ≡ p

joining : (m : Meaning) (a b n : ℕ) (p : Price) (o : Option Link) → link_at m n ≡ o → joins a b o ≡ true → p ≡ link_price o → Joining m a b p
joining m a b n p None e j g = absurd (both_ways false refl j)
joining m a b n p (Some l) e j g = let t = and_parts (eqb l.from a) (eqb l.to b) j in
    record { number = n; link = l; named = e; from_is = eqb-true l.from a t.0; to_is = eqb-true l.to b t.1; price_is = sym g }

cheapest_met : (m : Meaning) (a b : ℕ) → is_open (cheapest m a b) ≡ true → Joining m a b (cheapest m a b)
cheapest_met m a b o =
    let t = least_met (joins a b) link_price m.links o in
    joining m a b t.number (cheapest m a b) (link_at m t.number) refl t.passes t.gives

module _ (m : Meaning) (law : Lawful m) where
  named_proper : (n : ℕ) (o : Option Link) → link_at m n ≡ o → Proper m.kind (link_price o)
  named_proper n None e = tt
  named_proper n (Some l) e = price_proper m law n l e

  between_proper : (a b : ℕ) → Proper m.kind (cheapest m a b)
  between_proper a b = least_all (joins a b) link_price (Proper m.kind) tt m.links (λ n. named_proper n (link_at m n) refl)

  along_proper : (a : ℕ) (ps : List ℕ) → Proper m.kind (price_along m a ps)
  unfolding price_along
  along_proper a [] = zero_proper m law
  along_proper a (b ∷ ps) = sum_proper m.kind (cheapest m a b) (price_along m b ps) (between_proper a b) (along_proper b ps)

  -- one place more
  along_more : (x : ℕ) (xs : List ℕ) (a b : ℕ) → price_along m x (xs ++ a ∷ b ∷ []) ≡ sum m.kind (price_along m x (xs ++ a ∷ [])) (cheapest m a b)
  unfolding price_along
  along_more x [] a b =
      ap (sum m.kind (cheapest m x a)) (sum_comm m.kind (cheapest m a b) (zero_of m.kind))
      ∙ sym (sum_assoc m.kind (cheapest m x a) (zero_of m.kind) (cheapest m a b) (between_proper x a) (zero_proper m law) (between_proper a b))
  along_more x (y ∷ xs) a b =
      ap (sum m.kind (cheapest m x y)) (along_more y xs a b)
      ∙ sym (sum_assoc m.kind (cheapest m x y) (price_along m y (xs ++ a ∷ [])) (cheapest m a b) (between_proper x y) (along_proper y (xs ++ a ∷ []))
      (between_proper a b))

  price_more : (xs : List ℕ) (a b : ℕ) → places_price m (xs ++ a ∷ b ∷ []) ≡ sum m.kind (places_price m (xs ++ a ∷ [])) (cheapest m a b)
  unfolding price_along
  price_more [] a b = sum_comm m.kind (cheapest m a b) (zero_of m.kind)
  price_more (x ∷ xs) a b = along_more x xs a b

  back_more : (ps : List ℕ) (a b : ℕ) → places_price m (reverse (b ∷ a ∷ ps)) ≡ sum m.kind (places_price m (reverse (a ∷ ps))) (cheapest m a b)
  back_more ps a b =
      ap (places_price m) (reverse_aux-eq ps (a ∷ b ∷ [])) ∙ price_more (reverse ps) a b
      ∙ ap (λ xs. sum m.kind (places_price m xs) (cheapest m a b)) (sym (reverse_aux-eq ps (a ∷ [])))

  -- the chain over the same places, by the cheapest links
  record ByCheapest (x : ℕ) (ps : List ℕ) (p : Price) : Type 0 where
    chain : Chain m x ps (places_price m (reverse ps))
    below : rank m.kind (places_price m (reverse ps)) ≤ rank m.kind p

  by_cheapest_begin : ByCheapest m.start (m.start ∷ []) (zero_of m.kind)
  unfolding price_along
  by_cheapest_begin = record { chain = begin; below = omega arith }

  by_cheapest_more : (n : ℕ) (l : Link) → link_at m n ≡ Some l → is_open l.price ≡ true → (ps : List ℕ) (p : Price) → Chain m l.from ps p →
      (Among l.to ps → ⊥) →
      ByCheapest l.from ps p → ByCheapest l.to (l.to ∷ ps) (sum m.kind p l.price)
  by_cheapest_more n l e o ps p c f h =
      let a = l.from in
      let b = l.to in
      let q = places_price m (reverse ps) in
      let d = cheapest m a b in
      let rest = chain_head m c in
      let is : places_price m (reverse (b ∷ ps)) ≡ sum m.kind q d =
      subst (λ (xs : List ℕ). places_price m (reverse (b ∷ xs)) ≡ sum m.kind (places_price m (reverse xs)) d) (sym rest.1)
      (back_more rest.0 a b) in
      let lo : rank m.kind d ≤ rank m.kind l.price = not_less_rank m.kind l.price d (price_proper m law n l e) (between_proper a b)
      (least_below (joins a b) link_price m.links n l e (and_from (eqb a a) (eqb b b) (eq-eqb a a refl) (eq-eqb b b refl))) in
      let top_above = rank_open m.kind l.price (price_proper m law n l e) o in
      let j : Joining m a b d = cheapest_met m a b (below_top_is_open m.kind d (omega arith)) in
      let k = j.link in
      let new : Chain m k.to (k.to ∷ ps) (sum m.kind q k.price) =
      more j.number k j.named (ap is_open j.price_is ∙ below_top_is_open m.kind d (omega arith))
      (subst (λ (z : ℕ). Chain m z ps q) (sym j.from_is) h.chain) (λ i. f (subst (λ (z : ℕ). Among z ps) j.to_is i)) in
      let moved : Chain m b (b ∷ ps) (sum m.kind q k.price) = subst (λ (z : ℕ). Chain m z (z ∷ ps) (sum m.kind q k.price)) j.to_is new in
      let same : sum m.kind q k.price ≡ places_price m (reverse (b ∷ ps)) = ap (sum m.kind q) j.price_is ∙ sym is in
      let s1 = link_sum m law j.number k j.named q (chain_within m law h.chain) in
      let s2 = link_sum m law n l e p (chain_within m law c) in
      let r1 = ap (rank m.kind) same in
      let r2 = ap (rank m.kind) j.price_is in
      let b1 = h.below in
      record { chain = subst (Chain m b (b ∷ ps)) same moved; below = omega arith }

  by_cheapest : {x : ℕ} {ps : List ℕ} {p : Price} → Chain m x ps p → ByCheapest x ps p
  by_cheapest begin = by_cheapest_begin
  by_cheapest (more {ps = ps} {p = p} n l e o c f) = by_cheapest_more n l e o ps p c f (by_cheapest c)

  -- a chain that has the true distance has it as a list of places too
  pub least_price : {x : ℕ} {ps : List ℕ} {p : Price} → Chain m x ps p → TrueDistance m x p → places_price m (reverse ps) ≡ p
  least_price {ps = ps} {p = p} c d =
      let h = by_cheapest c in
      let q = places_price m (reverse ps) in
      less_total q p (d.least ps q h.chain) (rank_not_less m.kind p q (chain_proper m law c) (chain_proper m law h.chain) h.below)
