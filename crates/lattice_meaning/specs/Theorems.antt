-- What holds of every lattice.
use Rattle.std.specs.Prelude.{◌≡◌, ℕ, ◌<◌, true, List, [], length, slice_set}
use Rattle.chart.specs.declared.end.End.{End}
use Rattle.chart.specs.Lawful.{Lawful}
use Rattle.chart.specs.Meaning.{priced}
use Rattle.chart.specs.Questions.{Next, leads_at}
use Rattle.lattice_meaning.specs.Directions.{links_per_place}
use Rattle.lattice_meaning.specs.Numbers.{lowest_of, number_at}
use Rattle.lattice_meaning.specs.Prices.{Counted, Priced, Unlinked, first_prices, lattice, links, one_cell, one_place, price_of}
use Rattle.lattice_meaning.specs.Shape.{Shape, in_limits}

-- the laws of a chart, for all sizes, starts, goals and numbers that keep the rules
abbrev pub LatticesLawful : Type 0
LatticesLawful = (s : Shape) (numbers : List ℕ) → in_limits s ≡ true → Counted s numbers → Priced s numbers → Lawful (lattice s numbers)

-- the first prices keep the rules
pub record FirstPricesRuled (s : Shape) : Type 0 where
  pub counted : Counted s (first_prices s)
  pub priced : Priced s (first_prices s)
  pub unlinked : Unlinked s (first_prices s)

-- of every shape within its limits
abbrev pub FirstRuled : Type 0
FirstRuled = (s : Shape) → in_limits s ≡ true → FirstPricesRuled s

-- one cell with no numbers is the chart of one place
abbrev pub OneCell : Type 0
OneCell = lattice one_cell [] ≡ one_place

-- setting a number sets the price of its link, and nothing else
abbrev pub SetIsPriced : Type 0
SetIsPriced = (s : Shape) (numbers : List ℕ) (n v : ℕ) → n < length numbers → lattice s (slice_set numbers n v) ≡ priced (lattice s numbers) n (price_of v)

-- the next link number with one end at a place is the lowest of those of the directions
abbrev pub NextAt : Type 0
NextAt = (end : End) (s : Shape) (numbers : List ℕ) → in_limits s ≡ true → (p k : ℕ) →
    Next (leads_at end p) (links s numbers) k (lowest_of k (number_at end s (length numbers) p) links_per_place)
