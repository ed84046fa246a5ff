use Rattle.std.proofs.Common.{◌≡◌, ℕ, Bool, length, take, None, refl, ap, ◌∙◌}
use Rattle.std.proofs.lemmas.Result.{err_from_is_err_and}
use Rattle.lifelong.specs.Trace.{trace as defined_trace}
use Rattle.turns.specs.Turned.{Turned}
use Rattle.turns.specs.Turns.{in_turn, precheck, refused, shows, trace as trace_turn, with_bench}
use Rattle.turns.proofs.Promised.{promised}
use Rattle.planner.specs.Faults.{told, untraced}
use Rattle.planner.specs.Stages.{state}
use Rattle.planner.proofs.Accepted.{accept}
use Rattle.planner.proofs.Shown.{route_refused, route_shown}
use Rattle.planner.proofs.planner.Planner.trace_if.Goals as goal

pub returns : goal.returns
returns g c =
    let v = g.C.Price.PriceKind.value in
    let s = state g.C.Chart.meaning v c.args.self.now c.args.bench.now in
    let out = c.args.out.now in
    let n = c.in_ok-places.places in
    let after = c.trace.new.out in
    let h = c.in_ok-places.ensures in
    let e : (k : ℕ) → c.args.in_turn ≡ in_turn s (trace_turn k (length out)) → None ≡ precheck s (trace_turn k (length out)) =
    λ k i. c.in_ok-check.ensures ∙ ap (λ (ok : Bool). with_bench ok s) i in
    let r = route_shown (defined_trace s.chart s.bench.standings) out after n h.answer h.out in
    let z : (k : ℕ) → c.args.in_turn ≡ in_turn s (trace_turn k (length out)) → Turned s (trace_turn k (length out)) (shows n (take n after)) s =
    λ k i. accept (precheck s (trace_turn k (length out))) s _ s _ (e k i) (r.is_shown, refl) in
    record { turned = z; out = (r.fits, r.rest); promise = λ k i l w. (promised s l).1 k (length out) (shows n (take n after)) s w (z k i) }

pub returns-in_err-places : goal.returns-in_err-places
returns-in_err-places g c =
    let v = g.C.Price.PriceKind.value in
    let s = state g.C.Chart.meaning v c.args.self.now c.args.bench.now in
    let out = c.args.out.now in
    let after = c.trace.new.out in
    let h = c.in_err-places.ensures in
    let e : (k : ℕ) → c.args.in_turn ≡ in_turn s (trace_turn k (length out)) → None ≡ precheck s (trace_turn k (length out)) =
    λ k i. c.in_ok-check.ensures ∙ ap (λ (ok : Bool). with_bench ok s) i in
    let p = err_from_is_err_and c.from_residual-in_err-places.result c.from_residual-in_err-places.ensures.1 in
    let f = c.in_err-places.field-0.0 in
    let a = refused (told (untraced f)) in
    let r = route_refused (defined_trace s.chart s.bench.standings) out after f h.answer h.out in
    let z : (k : ℕ) → c.args.in_turn ≡ in_turn s (trace_turn k (length out)) → Turned s (trace_turn k (length out)) a s =
    λ k i. accept (precheck s (trace_turn k (length out))) s a s _ (e k i) (r.is_refused, refl) in
    rw (p.1, p.2) (record { turned = z; out = r.same; promise = λ k i l w. (promised s l).1 k (length out) a s w (z k i) })
