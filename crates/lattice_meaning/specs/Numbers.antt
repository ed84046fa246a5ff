-- The link numbers with one end at a place: at most one for each direction.
use Rattle.std.specs.Prelude.{ℕ, ◌+◌, ◌*◌, cond, filter, min, Some, None, Option, nat_le, nat_lt}
use Rattle.std.specs.List.{filter_map, range_with_len, reduce}
use Rattle.std.specs.Option.{option_map}
use Rattle.chart.specs.declared.end.End.{End}
use Rattle.chart.specs.declared.end.End.TheVariants.{From, To}
use Rattle.lattice_meaning.specs.Directions.{back, direction, links_per_place}
use Rattle.lattice_meaning.specs.Shape.{Shape, neighbour}

-- a link number, if it is one of so many
abbrev pub counted : ℕ → ℕ → Option ℕ
counted count n = cond (nat_lt n count) (Some n) None

-- the link number in direction d from a place, if there is one
abbrev pub number_from : ℕ → ℕ → Option ℕ → Option ℕ
number_from count d None = None
number_from count d (Some from) = counted count (links_per_place * from + d)

-- the place that the link in direction d with this end at place p leads from, if there is such a link: it is p, where
-- there is a neighbour to lead to, or the neighbour the other way
abbrev pub link_from : End → Shape → ℕ → ℕ → Option ℕ
link_from From s p d = option_map (λ to. p) (neighbour s (direction d) p)
link_from To s p d = neighbour s (direction (back d)) p

-- the number of that link
abbrev pub number_at : End → Shape → ℕ → ℕ → ℕ → Option ℕ
number_at end s count p d = number_from count d (link_from end s p d)

-- the lowest of f 0, f 1, .. that is at least k, before f d
unfoldable pub lowest_of : ℕ → (ℕ → Option ℕ) → ℕ → Option ℕ
lowest_of k f d = reduce min (filter (nat_le k) (filter_map f (range_with_len 0 d)))
