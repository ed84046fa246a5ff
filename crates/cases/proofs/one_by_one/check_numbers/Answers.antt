use Rattle.std.proofs.Common.{ℕ, suc, ◌≤◌, Bool, List, [], ◌∷◌, length, Option, inl, arith}
use Rattle.chart.specs.Meaning.{Link}
use Rattle.chart.specs.Questions.{leads_at, numbers_from}
use Rattle.cases.proofs.one_by_one.check_numbers.Goals as goal

-- a table has no fewer numbers than those that pass a test
numbers_few : (test : Option Link → Bool) (k : ℕ) (ls : List (Option Link)) → length (numbers_from test k ls) ≤ length ls
numbers_few test k [] = Prim.omega arith
numbers_few test k (l ∷ ls) = grind (arith, numbers_few test (suc k) ls)

pub count-requires-clause-fits : goal.count-requires-clause-fits
count-requires-clause-fits g c =
    let m = g.C.Chart.meaning c.args.pile.now in
    let few = numbers_few (leads_at c.args.arg4.0 c.args.arg4.1) 0 m.links in
    let table = (g.C.Chart.lawful c.args.pile.now).links_few in
    inl (grind (arith, few, table, c.new.ensures))
