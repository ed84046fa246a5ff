-- The chart of three places meets the laws.
use Rattle.std.proofs.Common.{ℕ, zero, suc, ◌<◌, refl, arith}
use Rattle.std.proofs.lemmas.List.{get_or-replicate}
use Rattle.rows.specs.Rows.{closed}
use Rattle.price.specs.Kinds.{lift_kind}
use Rattle.chart.specs.Lawful.{Consistent, EstimateLaw, Lawful, LinkLaw}
use Rattle.chart.specs.Meaning.{estimate_at, link_at}
use Rattle.chart.specs.Routes.{least_over}
use Rattle.chart.proofs.Chains.{start_distance}
use Rattle.lifelong.specs.Standings.{key, lookahead, uneven}
use Rattle.lifelong.specs.Step.{next_below, settled, step}
use Rattle.lifelong.specs.Run.{run}
use Rattle.lifelong.specs.Bounds.{Bounds}
use Rattle.lifelong.specs.Trace.{best_move, walk}
use Rattle.lifelong.proofs.Limits.{closed_within}
use Rattle.lifelong.specs.Charts.{three}
use Rattle.lifelong.specs.Examples.{AllHold, PremisesMet, Refused, fresh, table}

links : (n : ℕ) → LinkLaw lift_kind 3 0 (link_at three n)
links zero = record { from_in = omega arith; to_in = omega arith; apart = λ e. omega arith; floor_open = refl; floor_above = refl; floor_fits = refl; price_above = refl; price_fits = refl; held_by = omega arith }
links (suc zero) = record
    { from_in = omega arith; to_in = omega arith; apart = λ e. omega arith; floor_open = refl; floor_above = refl; floor_fits = refl; price_above = refl; price_fits = refl; held_by = omega arith }
links (suc (suc zero)) = record
    { from_in = omega arith; to_in = omega arith; apart = λ e. omega arith; floor_open = refl; floor_above = refl; floor_fits = refl; price_above = refl; price_fits = refl; held_by = omega arith }
links (suc (suc (suc n))) = tt

estimates : (p : ℕ) → p < 3 → EstimateLaw lift_kind (estimate_at three p)
estimates zero l = (omega arith, (omega arith, tt))
estimates (suc zero) l = (omega arith, (omega arith, tt))
estimates (suc (suc zero)) l = (omega arith, (omega arith, tt))
estimates (suc (suc (suc p))) l = absurd (omega arith)

consistent : (n : ℕ) → Consistent three (link_at three n)
consistent zero = refl
consistent (suc zero) = refl
consistent (suc (suc zero)) = refl
consistent (suc (suc (suc n))) = tt

pub three_lawful : Lawful three
three_lawful = record {
  some = omega arith;
  measured = refl;
  places_few = omega arith;
  start_in = omega arith;
  goal_in = omega arith;
  links_few = omega arith;
  height_low = omega arith;
  links_law = links;
  estimates_law = estimates;
  goal_zero = refl;
  consistent = consistent;
}

bounds : Bounds three (fresh three)
bounds = closed_within three (fresh three) (omega arith) (λ p l. get_or-replicate 3 p closed closed l)

pub premises_met : PremisesMet
unfolding run settled next_below uneven key lookahead least_over step
premises_met = record {
  lawful = three_lawful;
  bounds = bounds;
  steps = refl;
  steps_again = refl;
  lowers = refl;
  settles = refl;
  shows_route = refl;
  true_standing = start_distance three three_lawful;
}

pub table_holds : AllHold table
unfolding run settled next_below uneven key lookahead least_over step walk best_move
table_holds = (
  record { distance = refl; steps = refl; answer = refl },
  (
    record { distance = refl; steps = refl; answer = refl },
    (
      record { distance = refl; steps = refl; answer = refl },
      (
        record { distance = refl; steps = refl; answer = refl },
        (
          record { distance = refl; steps = refl; answer = refl },
          (
            record { distance = refl; steps = refl; answer = refl },
            (
              record { distance = refl; steps = refl; answer = refl },
              (
                record { distance = refl; steps = refl; answer = refl },
                (
                  record { distance = refl; steps = refl; answer = refl },
                  (
                    record { distance = refl; steps = refl; answer = refl },
                    tt,
                  ),
                ),
              ),
            ),
          ),
        ),
      ),
    ),
  ),
)

pub refused : Refused
refused = record { held = refl; low = refl; unnamed = refl }
