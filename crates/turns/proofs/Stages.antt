-- What passing 10 and 9 says of the stage and the bench.
use Rattle.std.proofs.Common.{◌≡◌, ℕ, ◌≤◌, Bool, true, false, cond, ◌&&◌, eqb, leb, Some, None, Option, refl, subst, arith}
use Rattle.std.proofs.lemmas.Bool.{and_parts, eqb-true, leb-true}
use Rattle.chart.specs.Meaning.{places}
use Rattle.lpa_star.specs.Memory.{size}
use Rattle.turns.specs.State.{Stage, State, firm, idle, loose, same_stage}
use Rattle.turns.specs.Turned.{Unless}
use Rattle.turns.specs.Turns.{Answer, Reason, plain, with_bench, without_bench}

pub stage_is : (g h : Stage) → same_stage g h ≡ true → h ≡ g
stage_is idle idle e = refl
stage_is idle loose e = cc
stage_is idle firm e = cc
stage_is loose idle e = cc
stage_is loose loose e = refl
stage_is loose firm e = cc
stage_is firm idle e = cc
stage_is firm loose e = cc
stage_is firm firm e = refl

pub not_both : (g : Stage) → g ≡ loose → g ≡ firm → ⊥
not_both g a b = let z : ◌≡◌ {A = ℕ} 0 1 = cc in omega arith

pub loose_not_idle : (g : Stage) → g ≡ loose → g ≡ idle → ⊥
loose_not_idle g a b = let z : ◌≡◌ {A = ℕ} 0 1 = cc in omega arith

pub firm_not_idle : (g : Stage) → g ≡ firm → g ≡ idle → ⊥
firm_not_idle g a b = let z : ◌≡◌ {A = ℕ} 0 1 = cc in omega arith

none_of : {A : Type 0} (b : Bool) (x : A) (o : Option A) → cond b o (Some x) ≡ None → (b ≡ true) × (o ≡ None)
none_of true x o e = (refl, e)
none_of false x o e = let z : ◌≡◌ {A = ℕ} 0 1 = cc in absurd (omega arith)

-- a turn that needs the stage g and a ticket, or the stage alone
pub on_stage : (g : Stage) (s : State) (b : Bool) → with_bench (same_stage g s.stage && b) s ≡ None → s.stage ≡ g
on_stage g s b e =
    let a = none_of ((same_stage g s.stage && b) && eqb s.bench.number s.number) (plain 10) _ e in
    let c = and_parts (same_stage g s.stage && b) (eqb s.bench.number s.number) a.0 in
    stage_is g s.stage (and_parts (same_stage g s.stage) b c.0).0

pub on_stage_alone : (g : Stage) (s : State) (b : Bool) → without_bench (same_stage g s.stage && b) ≡ None → s.stage ≡ g
on_stage_alone g s b e =
    let a = none_of (same_stage g s.stage && b) (plain 10) None e in
    stage_is g s.stage (and_parts (same_stage g s.stage) b a.0).0

pub long_enough : (s : State) (b : Bool) → with_bench b s ≡ None → places s.chart ≤ size s.bench
long_enough s b e =
    let a = none_of (b && eqb s.bench.number s.number) (plain 10) _ e in
    let c = none_of (leb (places s.chart) (size s.bench)) (plain 9) None a.1 in
    leb-true (places s.chart) (size s.bench) c.0

-- what is not refused is as is said
pub unless_none : (o : Option Reason) (s : State) (a : Answer) (t : State) (Else : Type 0) → o ≡ None → Unless o s a t Else → Else
unless_none o s a t Else e h = subst (λ (r : Option Reason). Unless r s a t Else) e h

-- a ticket of the planner's own number
pub ticket_is : (g : Stage) (s : State) (k : ℕ) → with_bench (same_stage g s.stage && eqb k s.number) s ≡ None → k ≡ s.number
ticket_is g s k e =
    let a = none_of ((same_stage g s.stage && eqb k s.number) && eqb s.bench.number s.number) (plain 10) _ e in
    let c = and_parts (same_stage g s.stage && eqb k s.number) (eqb s.bench.number s.number) a.0 in
    eqb-true k s.number (and_parts (same_stage g s.stage) (eqb k s.number) c.0).1
