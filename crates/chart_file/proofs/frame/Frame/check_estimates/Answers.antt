use Rattle.std.proofs.Common.{◌≡◌, ℕ, Bool, List, Some, sym, ap, ◌∙◌, arith, below_more}
use Rattle.chart_file.specs.Checks.{at_link, estimate_holds}
use Rattle.chart_file.specs.File.{link_record, place_record, trailer_of}
use Rattle.chart_file.specs.Records.{estimate_of, keeps_estimate}
use Rattle.chart_file.specs.declared.records.LinkRecord.{LinkRecord}
use Rattle.chart_file.specs.declared.records.PlaceRecord.{PlaceRecord}
use Rattle.chart_file.specs.declared.trailer.Trailer.{Trailer}
use Rattle.chart_file.proofs.Lowest.{fails_first, fails_nowhere}
use Rattle.chart_file.proofs.Ruled.{each_ruled}
use Rattle.chart_file.proofs.frame.Frame.check_estimates.Goals as goal

pub record-requires : goal.record-requires
record-requires c =
    let links = ap (λ (t : Trailer). t.links) c.args.self.whole in
    let law = each_ruled c.args.self.file.now c.args.self.trailer.places c.requires c.loop-n.n (omega arith) in
    let same = ap (λ (r : LinkRecord). r.from) c.record-link.ensures in
    omega arith

pub record-requires-in-loop-n : goal.record-requires-in-loop-n
record-requires-in-loop-n c =
    let links = ap (λ (t : Trailer). t.links) c.args.self.whole in
    let law = each_ruled c.args.self.file.now c.args.self.trailer.places c.requires c.loop-n.n (omega arith) in
    let same = ap (λ (r : LinkRecord). r.to) c.record-link.ensures in
    omega arith

-- what a test of the records found is the law at link n
found : (file : List ℕ) (n : ℕ) (l : LinkRecord) (p q : PlaceRecord) (b : Bool) → l ≡ link_record file n →
    p ≡ place_record file l.from → q ≡ place_record file l.to → b ≡ keeps_estimate (estimate_of p) (estimate_of q) l →
    estimate_holds file (link_record file n) ≡ b
found file n l p q b is-l is-p is-q is_b =
    ap (estimate_holds file) (sym is-l)
    ∙ (λ i. keeps_estimate (estimate_of (sym is-p i)) (estimate_of (sym is-q i)) l) ∙ sym is_b

pub returns-then-not-keeps_estimate : goal.returns-then-not-keeps_estimate
returns-then-not-keeps_estimate c =
    let links = ap (λ (t : Trailer). t.links) c.args.self.whole in
    ap Some c.at_link.ensures
    ∙ ap (at_link 5) (fails_first (estimate_holds c.args.self.file.now) (link_record c.args.self.file.now) (trailer_of c.args.self.file.now).links
    c.loop-n.n (omega arith) c.loop-n.invariant (found c.args.self.file.now c.loop-n.n c.record-link.result c.«record».result c.record-in-loop-n.result c.keeps_estimate.result
    c.record-link.ensures c.«record».ensures c.record-in-loop-n.ensures c.keeps_estimate.ensures ∙ c.if-not-keeps_estimate.true))

pub loop-n-preserved : goal.loop-n-preserved
loop-n-preserved c = below_more _ _ c.loop-n.invariant (found c.args.self.file.now c.loop-n.n c.record-link.result c.«record».result c.record-in-loop-n.result c.keeps_estimate.result
    c.record-link.ensures c.«record».ensures c.record-in-loop-n.ensures c.keeps_estimate.ensures ∙ c.if-not-keeps_estimate.false)

pub returns : goal.returns
returns c =
    let links = ap (λ (t : Trailer). t.links) c.args.self.whole in
    ap (at_link 5) (fails_nowhere (estimate_holds c.args.self.file.now) (link_record c.args.self.file.now) (trailer_of c.args.self.file.now).links
    (λ k lt. c.loop-n.invariant k (omega arith)))
