-- From what is done to chart and bench to what the definitions of the turns say.
use Rattle.std.proofs.Common.{◌≡◌, ℕ, ◌≤◌, Bool, true, false, map, length, None, Option, sym, ap, ◌∙◌, subst, arith}
use Rattle.std.proofs.lemmas.List.{drop-map}
use Rattle.std.proofs.lemmas.Bool.{both_ways, cond-true}
use Rattle.rows.specs.Rows.{Price}
use Rattle.chart.specs.Meaning.{places}
use Rattle.bench.specs.Keys.{key_of}
use Rattle.bench.specs.declared.bench.Bench.{Bench}
use Rattle.bench.specs.declared.key.Key.{Key as PriceKey}
use Rattle.bench.specs.Contents.{past, room}
use Rattle.lifelong.specs.Run.{repair as defined_repair}
use Rattle.lifelong.specs.Standings.{standing_at}
use Rattle.lifelong.specs.Step.{settled}
use Rattle.lpa_star.specs.Memory.{Memory, SamePast, memory}
use Rattle.lpa_star.proofs.Columns.{standings_long}
use Rattle.turns.specs.History.{no_reason, passes}
use Rattle.turns.specs.State.{State}
use Rattle.turns.specs.Turned.{Unless, repair_answer}
use Rattle.turns.specs.Turns.{Answer, Reason, Turn, precheck, repairs, with_bench}
use Rattle.turns.proofs.Stages.{long_enough}

-- not refused, and so as is said
pub accept : (o : Option Reason) (s : State) (a : Answer) (t : State) (Else : Type 0) → None ≡ o → Else → Unless o s a t Else
accept o s a t Else e h = subst (λ (r : Option Reason). Unless r s a t Else) e h

-- what passes is not refused
pub passing : (s : State) (u : Turn) (X : Type 0) → None ≡ precheck s u → passes s u ≡ false → X
passing s u X e f = absurd (both_ways (passes s u) f (ap no_reason (sym e)))

-- there is a record for each place
pub roomy : {P : Type 0} (v : P → Price) (s : State) (ok : Bool) (b : Bench P (PriceKey P)) → s.bench ≡ memory v b → None ≡ with_bench ok s → places s.chart ≤ room b
roomy v s ok b eb e =
    let l = long_enough s ok (sym e) in
    let z = ap (λ (d : Memory). length d.standings) eb in
    omega (arith, standings_long v b)

-- records that stay whole stay so in each column
pub same_past : {P : Type 0} (v : P → Price) (n : ℕ) (b d : Bench P (PriceKey P)) → past n d ≡ past n b → SamePast n (memory v b) (memory v d)
same_past v n b d e =
    let xs = b.records.now in
    let ys = d.records.now in
    record {
      standings = drop-map (λ r. v r.standing) n ys ∙ ap (map (λ r. v r.standing)) e ∙ sym (drop-map (λ r. v r.standing) n xs);
      lookaheads = drop-map (λ r. v r.lookahead) n ys ∙ ap (map (λ r. v r.lookahead)) e ∙ sym (drop-map (λ r. v r.lookahead) n xs);
      keys = drop-map (λ r. key_of v r.key) n ys ∙ ap (map (λ r. key_of v r.key)) e ∙ sym (drop-map (λ r. key_of v r.key) n xs);
      slots = drop-map (λ r. r.slot) n ys ∙ ap (map (λ r. r.slot)) e ∙ sym (drop-map (λ r. r.slot) n xs);
      indexes = drop-map (λ r. r.index) n ys ∙ ap (map (λ r. r.index)) e ∙ sym (drop-map (λ r. r.index) n xs);
    }

-- the answer of the defined run, where it ends settled
pub as_answered : (s : State) (k : ℕ) (x : Price) (n : ℕ) → k ≡ s.number → x ≡ standing_at (defined_repair s.chart s.bench.standings).left s.chart.goal →
    n ≡ length (defined_repair s.chart s.bench.standings).steps → settled s.chart (defined_repair s.chart s.bench.standings).left ≡ true →
    repairs k x n ≡ repair_answer s
as_answered s k x n ek ex en t =
    (λ i. repairs (ek i) (ex i) (en i)) ∙ sym (cond-true (settled s.chart (defined_repair s.chart s.bench.standings).left) _ _ t)
