-- A guard keeps what the chart below says, but for the links that it holds.
use Rattle.std.proofs.Common.{◌≡◌, ℕ, ◌≤◌, Bool, true, false, cond, not, eqb, List, map, Some, None, Option, sym, refl, ap, ◌∙◌, arith}
use Rattle.std.proofs.lemmas.List.{length-map}
use Rattle.std.proofs.lemmas.Bool.{cond-true, cond-false, true≢false}
use Rattle.rows.specs.Rows.{Kind, Price, closed}
use Rattle.chart.specs.Lawful.{Consistent, LinkLaw}
use Rattle.chart.specs.Meaning.{Link, Meaning, link_at, places, priced, with_price}
use Rattle.chart.specs.Questions.{Next, leads_at, leads_into, leads_out, numbers_at}
use Rattle.chart.specs.declared.end.End.{End}
use Rattle.chart.specs.declared.end.End.TheVariants.{From, To}
use Rattle.chart.specs.Refusals.{Refusal, refusal, refusal_at, unless}
use Rattle.layer_meaning.specs.Guarded.{guarded, guarded_link, held_at, touched}
use Rattle.layer_meaning.specs.Heights.{above}
use Rattle.layer_meaning.specs.Theorems.{GuardHandsOn, GuardInto, GuardLawful, GuardLinks, GuardOut, GuardRefuses, UpperHolds}
use Rattle.layer_meaning.proofs.Mapped.{each_mapped, link_mapped, next_mapped, numbers_mapped, priced_mapped}
use Rattle.layer_meaning.proofs.Raised.{above_low, above_marks, above_more, relinked, set_through}

-- what a test cannot tell of a link that is held stands for each link of a guard
either_way : {A : Type 0} (F : Option Link → A) (h : ℕ) → ((o : Option Link) → F (held_at h o) ≡ F o) →
    (b : Bool) (o : Option Link) → F (cond b (held_at h o) o) ≡ F o
either_way F h e true o = e o
either_way F h e false o = refl

into_held : (p h : ℕ) (o : Option Link) → leads_into p (held_at h o) ≡ leads_into p o
into_held p h None = refl
into_held p h (Some l) = refl

out_held : (p h : ℕ) (o : Option Link) → leads_out p (held_at h o) ≡ leads_out p o
out_held p h None = refl
out_held p h (Some l) = refl

touched_held : (ps : List ℕ) (h : ℕ) (o : Option Link) → touched ps (held_at h o) ≡ touched ps o
touched_held ps h None = refl
touched_held ps h (Some l) = refl

held_again : (h high : ℕ) (o : Option Link) → held_at high (held_at h o) ≡ held_at high o
held_again h high None = refl
held_again h high (Some l) = refl

touched_priced : (ps : List ℕ) (p : Price) (o : Option Link) → touched ps (with_price p o) ≡ touched ps o
touched_priced ps p None = refl
touched_priced ps p (Some l) = refl

refusal_held : (k : Kind) (h n : ℕ) (p : Price) (ps : List ℕ) (o : Option Link) → eqb h 0 ≡ false → touched ps o ≡ true →
    refusal_at k (held_at h o) n p ≡ Some (record { by = 7; link = Some n; height = h })
refusal_held k h n p ps None e t = absurd (true≢false (sym t))
refusal_held k h n p ps (Some l) e t = cond-true (not (eqb h 0)) _ _ (ap not e)

module _ (ps : List ℕ) (h : ℕ) where
  into_same : (p : ℕ) (o : Option Link) → leads_into p (guarded_link ps h o) ≡ leads_into p o
  into_same p o = either_way (leads_into p) h (into_held p h) (touched ps o) o

  out_same : (p : ℕ) (o : Option Link) → leads_out p (guarded_link ps h o) ≡ leads_out p o
  out_same p o = either_way (leads_out p) h (out_held p h) (touched ps o) o

  pub next_guarded : (e : End) (p : ℕ) (ls : List (Option Link)) (k : ℕ) (r : Option ℕ) → Next (leads_at e p) ls k r → Next (leads_at e p) (map (guarded_link ps h) ls) k r
  next_guarded To p = next_mapped (guarded_link ps h) refl (leads_into p) (leads_into p) (into_same p)
  next_guarded From p = next_mapped (guarded_link ps h) refl (leads_out p) (leads_out p) (out_same p)

pub links_held : GuardLinks
links_held ps m n = link_mapped (guarded_link ps (above m.height)) refl m.links n

pub into_guarded : GuardInto
into_guarded ps m p = numbers_mapped (guarded_link ps (above m.height)) refl (leads_into p) (leads_into p) (into_same ps (above m.height) p) 0 m.links

pub out_guarded : GuardOut
out_guarded ps m p = numbers_mapped (guarded_link ps (above m.height)) refl (leads_out p) (leads_out p) (out_same ps (above m.height) p) 0 m.links

pub numbers_guarded : (ps : List ℕ) (m : Meaning) (e : End) (p : ℕ) → numbers_at e (guarded ps m) p ≡ numbers_at e m p
numbers_guarded ps m From p = out_guarded ps m p
numbers_guarded ps m To p = into_guarded ps m p

-- the link of a number, where it is held, and where it is free
pub held_there : (ps : List ℕ) (m : Meaning) (n : ℕ) → touched ps (link_at m n) ≡ true → link_at (guarded ps m) n ≡ held_at (above m.height) (link_at m n)
held_there ps m n t = links_held ps m n ∙ cond-true (touched ps (link_at m n)) (held_at (above m.height) (link_at m n)) (link_at m n) t

pub free_there : (ps : List ℕ) (m : Meaning) (n : ℕ) → touched ps (link_at m n) ≡ false → link_at (guarded ps m) n ≡ link_at m n
free_there ps m n t = links_held ps m n ∙ cond-false (touched ps (link_at m n)) (held_at (above m.height) (link_at m n)) (link_at m n) t

-- the answer below is the guard's, held or as it is
pub held_answer : (ps : List ℕ) (m : Meaning) (n : ℕ) (o : Option Link) → o ≡ link_at m n → touched ps o ≡ true → held_at (above m.height) o ≡ link_at (guarded ps m) n
held_answer ps m n o e t = ap (held_at (above m.height)) e ∙ sym (held_there ps m n (ap (touched ps) (sym e) ∙ t))

pub free_answer : (ps : List ℕ) (m : Meaning) (n : ℕ) (o : Option Link) → o ≡ link_at m n → touched ps o ≡ false → o ≡ link_at (guarded ps m) n
free_answer ps m n o e t = e ∙ sym (free_there ps m n (ap (touched ps) (sym e) ∙ t))

pub refused_held : GuardRefuses
refused_held ps m n p t =
    ap (λ (o : Option Link). refusal_at m.kind o n p) (held_there ps m n t) ∙
    refusal_held m.kind (above m.height) n p ps (link_at m n) (above_marks m.height) t

priced_free : (ps : List ℕ) (h : ℕ) (p : Price) (o : Option Link) → touched ps o ≡ false →
    guarded_link ps h (with_price p o) ≡ with_price p (guarded_link ps h o)
priced_free ps h p o t =
    cond-false (touched ps (with_price p o)) (held_at h (with_price p o)) (with_price p o) (touched_priced ps p o ∙ t) ∙
    ap (with_price p) (sym (cond-false (touched ps o) (held_at h o) o t))

pub handed_on : GuardHandsOn
handed_on ps m n p t = (
  ap (λ (o : Option Link). refusal_at m.kind o n p) (free_there ps m n t),
  ap
      (λ (ls : List (Option Link)). record { kind = m.kind; start = m.start; goal = m.goal; height = above m.height; links = ls; estimates = m.estimates })
      (priced_mapped (guarded_link ps (above m.height)) refl p m.links n (priced_free ps (above m.height) p (link_at m n) t)),
)

-- what a price leaves
pub left_held : (ps : List ℕ) (m : Meaning) (n : ℕ) (p : Price) → touched ps (link_at m n) ≡ true →
    guarded ps m ≡ unless (refusal (guarded ps m) n p) (guarded ps m) (priced (guarded ps m) n p)
left_held ps m n p t =
    ap (λ (r : Option Refusal). unless r (guarded ps m) (priced (guarded ps m) n p)) (sym (refused_held ps m n p t))

pub left_free : (ps : List ℕ) (m : Meaning) (n : ℕ) (p : Price) → touched ps (link_at m n) ≡ false →
    guarded ps (unless (refusal m n p) m (priced m n p)) ≡ unless (refusal (guarded ps m) n p) (guarded ps m) (priced (guarded ps m) n p)
left_free ps m n p t = set_through (guarded ps) m n p (handed_on ps m n p t)

pub upper_holds : UpperHolds
upper_holds ps qs m n t =
    let low = above m.height in
    let high = above low in
    let below : link_at (guarded qs m) n ≡ guarded_link qs (above m.height) (link_at m n) = links_held qs m n in
    let same : touched ps (link_at (guarded qs m) n) ≡ touched ps (link_at m n) =
    ap (touched ps) below ∙ either_way (touched ps) low (touched_held ps low) (touched qs (link_at m n)) (link_at m n) in
    held_there ps (guarded qs m) n (same ∙ t) ∙
    ap (held_at high) below ∙
    either_way (held_at high) low (held_again low high) (touched qs (link_at m n)) (link_at m n)

-- the laws
link_held : (k : Kind) (count low high : ℕ) (b : Bool) (o : Option Link) → low ≤ high → LinkLaw k count low o →
    LinkLaw k count high (cond b (held_at high o) o)
link_held k count low high true None le law = tt
link_held k count low high false None le law = tt
link_held k count low high false (Some l) le law =
    relinked k count low high l l.price l.held law.price_above law.price_fits (omega (arith, law.held_by)) law
link_held k count low high true (Some l) le law = relinked k count low high l closed high refl refl (omega arith) law

consistent_held : (ps : List ℕ) (m : Meaning) (h : ℕ) (b : Bool) (o : Option Link) → Consistent m o → Consistent (guarded ps m) (cond b (held_at h o) o)
consistent_held ps m h true None law = tt
consistent_held ps m h false None law = tt
consistent_held ps m h true (Some l) law = law
consistent_held ps m h false (Some l) law = law

pub lawful_guarded : GuardLawful
lawful_guarded ps m law =
    let high = above m.height in
    let up = above_more m.height law.height_low in
    record {
      some = law.some;
      measured = law.measured;
      places_few = law.places_few;
      start_in = law.start_in;
      goal_in = law.goal_in;
      links_few = omega (arith, length-map m.links (guarded_link ps (above m.height)), law.links_few);
      height_low = above_low m.height;
      links_law = each_mapped (guarded_link ps high) refl (LinkLaw m.kind (places m) m.height) (LinkLaw m.kind (places m) high)
          (λ o l. link_held m.kind (places m) m.height high (touched ps o) o up l) m.links law.links_law;
      estimates_law = law.estimates_law;
      goal_zero = law.goal_zero;
      consistent = each_mapped (guarded_link ps high) refl (Consistent m) (Consistent (guarded ps m))
          (λ o l. consistent_held ps m high (touched ps o) o l) m.links law.consistent;
    }
