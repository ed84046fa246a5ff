-- A chart whose links are those of another, each changed by one map.
use Rattle.std.proofs.Common.{◌≡◌, ℕ, suc, Bool, cond, List, [], ◌∷◌, map, get_or, set, Some, None, Option, sym, refl, ap, ◌∙◌, subst, arith}
use lib.ListN.{get_or-map}
use Rattle.std.proofs.lemmas.List.{length-map, map-set}
use Rattle.rows.specs.Rows.{Price}
use Rattle.chart.specs.Meaning.{Link, with_price}
use Rattle.chart.specs.Questions.{Next, numbers_from}

module _ (f : Option Link → Option Link) (none : f None ≡ None) where
  -- the link that a number names
  pub link_mapped : (ls : List (Option Link)) (n : ℕ) → get_or (map f ls) n None ≡ f (get_or ls n None)
  link_mapped ls n = ap (get_or (map f ls) n) (sym none) ∙ get_or-map f ls n None

  -- what holds of every link then
  pub each_mapped : (P Q : Option Link → Type 0) → ((o : Option Link) → P o → Q (f o)) → (ls : List (Option Link)) →
      ((n : ℕ) → P (get_or ls n None)) → (n : ℕ) → Q (get_or (map f ls) n None)
  each_mapped P Q step ls h n = subst Q (sym (link_mapped ls n)) (step (get_or ls n None) (h n))

  -- a price that is set
  pub priced_mapped : (p : Price) (ls : List (Option Link)) (n : ℕ) → f (with_price p (get_or ls n None)) ≡ with_price p (f (get_or ls n None)) →
      map f (set ls n (with_price p (get_or ls n None))) ≡ set (map f ls) n (with_price p (get_or (map f ls) n None))
  priced_mapped p ls n e =
      map-set f ls n (with_price p (get_or ls n None)) ∙
      ap (set (map f ls) n) (e ∙ ap (with_price p) (sym (link_mapped ls n)))

  module _ (test was : Option Link → Bool) (same : (o : Option Link) → test (f o) ≡ was o) where
    -- the links that pass a test, where another test tells them before the change
    pub numbers_mapped : (k : ℕ) (ls : List (Option Link)) → numbers_from test k (map f ls) ≡ numbers_from was k ls
    numbers_mapped k [] = refl
    numbers_mapped k (l ∷ ls) =
        λ i. cond (same l i) (k ∷ numbers_mapped (suc k) ls i) (numbers_mapped (suc k) ls i)

    pub tested_mapped : (ls : List (Option Link)) (n : ℕ) → test (get_or (map f ls) n None) ≡ was (get_or ls n None)
    tested_mapped ls n = ap test (link_mapped ls n) ∙ same (get_or ls n None)

    pub next_mapped : (ls : List (Option Link)) (k : ℕ) (r : Option ℕ) → Next was ls k r → Next test (map f ls) k r
    next_mapped ls k None h = λ j le. tested_mapped ls j ∙ h j le
    next_mapped ls k (Some n) h =
        (h.0, omega (arith, length-map ls f, h.1), tested_mapped ls n ∙ h.2, λ j le lt. tested_mapped ls j ∙ h.3 j le lt)
