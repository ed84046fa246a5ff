-- What is answered and written of a trace, as the turn's answer.
use Rattle.std.proofs.Common.{◌≡◌, ℕ, ◌≤◌, Bool, true, false, cond, leb, List, ◌++◌, length, take, drop, Ok, Err, Result, sym, refl, ap, ◌∙◌, arith}
use lib.Seq.{drop-append_seam, take-append_seam}
use Rattle.std.proofs.lemmas.Bool.{leb-true}
use Rattle.lifelong.specs.Trace.{Traced, misses, none, shows as shows_places}
use Rattle.trace.specs.Answers.{answer, written}
use Rattle.trace.specs.declared.tracing.Untraced.{Untraced}
use Rattle.trace.specs.declared.tracing.Untraced.TheVariants.{GoalClosed, StartMissed, ShortBuffer}
use Rattle.turns.specs.Turned.{trace_answer}
use Rattle.turns.specs.Turns.{refused, short_buffer, shows}
use Rattle.planner.specs.Faults.{told, untraced}

-- a route that fits: the places answered stand first in the buffer, and the rest is as it was
pub record RouteShown (t : Traced) (out after : List ℕ) (n : ℕ) : Type 0 where
  pub is_shown : shows n (take n after) ≡ trace_answer t (length out)
  pub fits : n ≤ length out
  pub rest : drop n after ≡ drop n out

route_fits : (b : Bool) (ps out after : List ℕ) (n : ℕ) → leb (length ps) (length out) ≡ b →
    Ok n ≡ cond {A = Result ℕ Untraced} b (Ok (length ps)) (Err (ShortBuffer (length ps))) →
    after ≡ cond b (ps ++ drop (length ps) out) out → cond b (shows (length ps) ps) (refused (short_buffer (length ps))) ≡ trace_answer (shows_places ps) (length out) →
    RouteShown (shows_places ps) out after n
route_fits true ps out after n l e w a =
    let en : n ≡ length ps = cc in
    let ew : take n after ≡ ps = (λ i. take (en i) (w i)) ∙ take-append_seam ps (drop (length ps) out) in
    record {
      is_shown = (λ i. shows (en i) (ew i)) ∙ a;
      fits = omega (arith, leb-true (length ps) (length out) l);
      rest = (λ i. drop (en i) (w i)) ∙ drop-append_seam ps (drop (length ps) out) ∙ ap (λ (k : ℕ). drop k out) (sym en);
    }
route_fits false ps out after n l e w a = let z : ◌≡◌ {A = ℕ} 0 1 = cc in absurd (omega arith)

pub route_shown : (t : Traced) (out after : List ℕ) (n : ℕ) → Ok n ≡ answer t (length out) → after ≡ written t out → RouteShown t out after n
route_shown none out after n e w = let z : ◌≡◌ {A = ℕ} 0 1 = cc in absurd (omega arith)
route_shown misses out after n e w = let z : ◌≡◌ {A = ℕ} 0 1 = cc in absurd (omega arith)
route_shown (shows_places ps) out after n e w = route_fits (leb (length ps) (length out)) ps out after n refl e w refl

-- refused, and the buffer as it was
pub record RouteRefused (t : Traced) (out after : List ℕ) (f : Untraced) : Type 0 where
  pub is_refused : refused (told (untraced f)) ≡ trace_answer t (length out)
  pub same : after ≡ out

route_long : (b : Bool) (ps out after : List ℕ) (f : Untraced) →
    Err f ≡ cond {A = Result ℕ Untraced} b (Ok (length ps)) (Err (ShortBuffer (length ps))) →
    after ≡ cond b (ps ++ drop (length ps) out) out → cond b (shows (length ps) ps) (refused (short_buffer (length ps))) ≡ trace_answer (shows_places ps) (length out) →
    RouteRefused (shows_places ps) out after f
route_long true ps out after f e w a = let z : ◌≡◌ {A = ℕ} 0 1 = cc in absurd (omega arith)
route_long false ps out after f e w a =
    let ef : f ≡ ShortBuffer (length ps) = cc in record { is_refused = ap (λ (x : Untraced). refused (told (untraced x))) ef ∙ a; same = w }

pub route_refused : (t : Traced) (out after : List ℕ) (f : Untraced) → Err f ≡ answer t (length out) → after ≡ written t out → RouteRefused t out after f
route_refused none out after f e w = let ef : f ≡ GoalClosed = cc in record { is_refused = ap (λ (x : Untraced). refused (told (untraced x))) ef; same = w }
route_refused misses out after f e w = let ef : f ≡ StartMissed = cc in record { is_refused = ap (λ (x : Untraced). refused (told (untraced x))) ef; same = w }
route_refused (shows_places ps) out after f e w = route_long (leb (length ps) (length out)) ps out after f e w refl
