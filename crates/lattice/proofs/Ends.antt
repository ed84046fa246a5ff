-- The links with one end at a place, of either end.
use Rattle.std.proofs.Common.{◌≡◌, ℕ, Bool, true, false, cond, leb, List, [], ◌∷◌, filter, min, Some, None, Option, sym, refl, ap, ◌∙◌, subst}
use Rattle.std.specs.List.{cons_option, filter_map, fold, reduce}
use Rattle.chart.specs.Questions.{Next, leads_at}
use Rattle.chart.specs.declared.end.End.{End}
use Rattle.lattice_meaning.specs.Directions.{links_per_place}
use Rattle.lattice_meaning.specs.Numbers.{lowest_of, number_at}
use Rattle.lattice_meaning.specs.Prices.{links}
use Rattle.lattice_meaning.proofs.Next.{next_at}
use Rattle.lattice.proofs.InUse.{numbers_long}
use Rattle.lattice.specs.Drawn.{chart_of, numbers_of}
use Rattle.lattice.specs.Layouts.{number, shape}
use Rattle.lattice.specs.Lowest.{from_on, lower_of}
use Rattle.lattice.specs.declared.direction.Direction.{Direction}
use Rattle.lattice.specs.declared.direction.Direction.TheVariants.{Up, Right, Down, Left}
use Rattle.lattice.specs.declared.lattice.Lattice.{Lattice}

-- the directions in the order of their numbers
abbrev pub all : List Direction
all = Up ∷ Right ∷ Down ∷ Left ∷ []

-- the lowest of the numbers in these directions is the next one
pub next_least : (e : End) (l : Lattice) (p k : ℕ) (r : Option ℕ) →
    r ≡ reduce min (filter (leb k) (filter_map (λ d. number_at e (shape l.layout) l.link_count p (number d)) all)) → Next (leads_at e p) (chart_of l).links k r
unfolding lowest_of
next_least e l p k r least =
    let s = shape l.layout in
    subst (Next (leads_at e p) (links s (numbers_of l)) k)
    (ap (λ (n : ℕ). lowest_of k (number_at e s n p) links_per_place) (numbers_long l) ∙ sym least)
    (next_at e s (numbers_of l) l.within p k)

-- the lowest from k on, one direction after another
module _ (k : ℕ) (f : Direction → Option ℕ) where
  -- those in some directions that are no lower than k
  abbrev pub passed : List Direction → List ℕ
  passed ds = filter (leb k) (filter_map f ds)

  lowered : Option ℕ → List Direction → Option ℕ
  lowered o [] = o
  lowered o (d ∷ ds) = lowered (lower_of o (from_on k (f d))) ds

  one_more : (m : ℕ) (ds : List Direction) → ((n : ℕ) → lowered (Some n) ds ≡ Some (fold min n (passed ds))) →
      (o : Option ℕ) → lowered (lower_of (Some m) (from_on k o)) ds ≡ Some (fold min m (filter (leb k) (cons_option o (filter_map f ds))))
  one_more m ds h None = h m
  one_more m ds h (Some n) = tested (leb k n)
    where
      tested : (b : Bool) → lowered (lower_of (Some m) (cond b (Some n) None)) ds ≡ Some (fold min m (cond b (n ∷ passed ds) (passed ds)))
      tested true = h (min m n)
      tested false = h m

  lowered_some : (m : ℕ) (ds : List Direction) → lowered (Some m) ds ≡ Some (fold min m (passed ds))
  unfolding lowered
  lowered_some m [] = refl
  lowered_some m (d ∷ ds) = one_more m ds (λ n. lowered_some n ds) (f d)

  first_more : (ds : List Direction) → lowered None ds ≡ reduce min (passed ds) →
      (o : Option ℕ) → lowered (lower_of None (from_on k o)) ds ≡ reduce min (filter (leb k) (cons_option o (filter_map f ds)))
  first_more ds h None = h
  first_more ds h (Some n) = tested (leb k n)
    where
      tested : (b : Bool) → lowered (lower_of None (cond b (Some n) None)) ds ≡ reduce min (cond b (n ∷ passed ds) (passed ds))
      tested true = lowered_some n ds
      tested false = h

  lowered_none : (ds : List Direction) → lowered None ds ≡ reduce min (passed ds)
  unfolding lowered
  lowered_none [] = refl
  lowered_none (d ∷ ds) = first_more ds (lowered_none ds) (f d)

  pub lowest_of_four : lower_of (lower_of (lower_of (from_on k (f Up)) (from_on k (f Right))) (from_on k (f Down))) (from_on k (f Left)) ≡ reduce min (passed all)
  unfolding lowered
  lowest_of_four = lowered_none all
