-- What the first tests of a turn come to.
use Rattle.std.proofs.Common.{◌≡◌, ◌<◌, ◌≤◌, Bool, true, ◌&&◌, eqb, leb, Some, None, sym, ◌∙◌}
use Rattle.std.proofs.lemmas.Bool.{and_from, cond-true, cond-false, eq-eqb, le-leb, lt-leb}
use Rattle.chart.specs.Meaning.{places}
use Rattle.lpa_star.specs.Memory.{size}
use Rattle.turns.specs.State.{State}
use Rattle.turns.specs.Turns.{plain, with_bench}

module _ (ok : Bool) (s : State) (t : ok ≡ true) (n : s.bench.number ≡ s.number) where
  pub is_short : size s.bench < places s.chart → Some (plain 9) ≡ with_bench ok s
  is_short l = sym (
      cond-true (ok && eqb s.bench.number s.number) _ _ (and_from ok (eqb s.bench.number s.number) t (eq-eqb s.bench.number s.number n))
      ∙ cond-false (leb (places s.chart) (size s.bench)) _ _ (lt-leb (places s.chart) (size s.bench) l))

  pub is_fit : places s.chart ≤ size s.bench → None ≡ with_bench ok s
  is_fit l = sym (
      cond-true (ok && eqb s.bench.number s.number) _ _ (and_from ok (eqb s.bench.number s.number) t (eq-eqb s.bench.number s.number n))
      ∙ cond-true (leb (places s.chart) (size s.bench)) _ _ (le-leb (places s.chart) (size s.bench) l))
