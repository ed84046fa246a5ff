-- A repair as a loop takes its steps.
use Rattle.std.proofs.Common.{◌≡◌, ℕ, suc, ◌+◌, ◌-◌, ◌*◌, ◌<◌, ◌≤◌, true, false, length, Some, None, Option, sym, refl, ap, ◌∙◌, arith}
use Rattle.std.proofs.lemmas.Bool.{both_ways}
use Rattle.std.specs.Option.{is_some}
use Rattle.chart.specs.Meaning.{Meaning, places}
use Rattle.lifelong.specs.Step.{next, settled, step}
use Rattle.lifelong.specs.Run.{after, repair, run, stopped}
use Rattle.lifelong.proofs.Runs.{expansion, run_none, run_step}
use Rattle.lpa_star.specs.Memory.{Memory}
use Rattle.lpa_star.specs.Steps.{after_step}
use Rattle.lpa_star.specs.UpToDate.{UpToDate}

pub none_of_some : (o : Option ℕ) → is_some o ≡ false → o ≡ None
none_of_some None e = refl
none_of_some (Some n) e = absurd (both_ways true e refl)

-- s steps of the repair from d are done, and what is left of it begins at e
pub record Done (m : Meaning) (d e : Memory) (s : ℕ) : Type 0 where
  pub current : UpToDate m e
  pub count : length (repair m d.standings).steps ≡ s + length (run m (2 * places m - s) e.standings).steps
  pub left : (repair m d.standings).left ≡ (run m (2 * places m - s) e.standings).left

module _ (m : Meaning) (d : Memory) where
  pub done_none : UpToDate m d → Done m d d 0
  done_none h =
      let z : 2 * places m - 0 ≡ 2 * places m = omega arith in
      let r = ap (λ n. run m n d.standings) z in
      let c = ap (λ x. length x.steps) r in
      record { current = h; count = omega arith; left = sym (ap (λ x. x.left) r) }

  module _ (e : Memory) (s : ℕ) (h : Done m d e s) where
    pub done_more : (f : Memory) (p : ℕ) → s < 2 * places m → settled m e.standings ≡ false → next m e.standings ≡ Some p →
        f.standings ≡ step m e.standings p → UpToDate m f → Done m d f (s + 1)
    done_more f p l u n es i =
        let k = 2 * places m - (s + 1) in
        let w : 2 * places m - s ≡ suc k = omega arith in
        let r : run m (2 * places m - s) e.standings ≡ after (expansion m e.standings p) (run m k (step m e.standings p)) =
        ap (λ n. run m n e.standings) w ∙ run_step m e.standings k p u n in
        let t : run m k (step m e.standings p) ≡ run m k f.standings = ap (run m k) (sym es) in
        let c = ap (λ x. length x.steps) r in
        let c2 = ap (λ x. length x.steps) t in
        let c3 = h.count in
        record { current = i; count = omega arith; left = h.left ∙ ap (λ x. x.left) r ∙ ap (λ x. x.left) t }

    -- a step that found a place, and one that found none
    pub done_on : (f : Memory) (o : Option ℕ) → is_some o ≡ true → s < 2 * places m → settled m e.standings ≡ false → next m e.standings ≡ o →
        f.standings ≡ after_step m e.standings o → UpToDate m f → Done m d f (s + 1)
    done_on f None z l u n es i = absurd (both_ways false refl z)
    done_on f (Some p) z l u n es i = done_more f p l u n es i

    -- where the rest of the repair takes no step
    module _ (r : run m (2 * places m - s) e.standings ≡ stopped e.standings) where
      pub all_counted : s ≡ length (repair m d.standings).steps
      all_counted = let c = ap (λ x. length x.steps) r in let k = h.count in omega arith

      pub all_left : e.standings ≡ (repair m d.standings).left
      all_left = sym (h.left ∙ ap (λ x. x.left) r)

    pub spent : 2 * places m ≤ s → run m (2 * places m - s) e.standings ≡ stopped e.standings
    spent l = let z : 2 * places m - s ≡ 0 = omega arith in ap (λ n. run m n e.standings) z ∙ run_none m e.standings
