-- A return keeps what the chart below says, the other way round.
use Rattle.std.proofs.Common.{◌≡◌, ℕ, zero, suc, ◌<◌, ◌≤◌, Bool, true, false, cond, eqb, ltb, leb, List, [], ◌∷◌, map, length, replicate, Some, None, Option, sym, refl, ap, ◌∙◌, subst, arith}
use Rattle.std.proofs.lemmas.List.{get_or-map, length-map, length-replicate}
use Rattle.std.proofs.lemmas.Bool.{and_parts, false≢true, le-ltb}
use Rattle.std.specs.Option.{option_map}
use Rattle.std.specs.List.{slice_get}
use Rattle.rows.specs.Rows.{Kind, Price, closed, open_at, add_rows, all_below, at_most, less, linkable, row_less, sum, zero_of}
use Rattle.rows.proofs.Sums.{add_rows_length}
use Rattle.chart.specs.Lawful.{Consistent, EstimateLaw, LinkLaw, Room}
use Rattle.chart.specs.Meaning.{Link, Meaning, estimate_at, link_at, places, priced, with_price}
use Rattle.chart.specs.Questions.{Next, leads_at, leads_into, leads_out, numbers_at, opposite}
use Rattle.chart.specs.declared.end.End.{End}
use Rattle.chart.specs.declared.end.End.TheVariants.{From, To}
use Rattle.chart.specs.Refusals.{refusal, refusal_at, unless}
use Rattle.layer_meaning.specs.Heights.{above}
use Rattle.layer_meaning.specs.Returned.{returned, reversed}
use Rattle.layer_meaning.specs.Theorems.{ReturnHandsOn, ReturnInto, ReturnLawful, ReturnLinks, ReturnOut}
use Rattle.layer_meaning.proofs.Mapped.{each_mapped, link_mapped, next_mapped, numbers_mapped, priced_mapped}
use Rattle.layer_meaning.proofs.Raised.{above_low, above_more, set_through}

into_reversed : (p : ℕ) (o : Option Link) → leads_into p (reversed o) ≡ leads_out p o
into_reversed p None = refl
into_reversed p (Some l) = refl

out_reversed : (p : ℕ) (o : Option Link) → leads_out p (reversed o) ≡ leads_into p o
out_reversed p None = refl
out_reversed p (Some l) = refl

priced_reversed : (p : Price) (o : Option Link) → reversed (with_price p o) ≡ with_price p (reversed o)
priced_reversed p None = refl
priced_reversed p (Some l) = refl

refusal_reversed : (k : Kind) (n : ℕ) (p : Price) (o : Option Link) → refusal_at k (reversed o) n p ≡ refusal_at k o n p
refusal_reversed k n p None = refl
refusal_reversed k n p (Some l) = refl

pub links_reversed : ReturnLinks
links_reversed m n = link_mapped reversed refl m.links n

pub into_returned : ReturnInto
into_returned m p = numbers_mapped reversed refl (leads_into p) (leads_out p) (into_reversed p) 0 m.links

pub out_returned : ReturnOut
out_returned m p = numbers_mapped reversed refl (leads_out p) (leads_into p) (out_reversed p) 0 m.links

-- the links with an end at a place are those with the other end there, below
pub numbers_returned : (m : Meaning) (e : End) (p : ℕ) → numbers_at e (returned m) p ≡ numbers_at (opposite e) m p
numbers_returned m From p = out_returned m p
numbers_returned m To p = into_returned m p

pub next_returned : (e : End) (p : ℕ) (ls : List (Option Link)) (k : ℕ) (r : Option ℕ) → Next (leads_at (opposite e) p) ls k r → Next (leads_at e p) (map reversed ls) k r
next_returned To p = next_mapped reversed refl (leads_into p) (leads_out p) (into_reversed p)
next_returned From p = next_mapped reversed refl (leads_out p) (leads_into p) (out_reversed p)

pub handed_on : ReturnHandsOn
handed_on m n p = (
  ap (λ (o : Option Link). refusal_at m.kind o n p) (links_reversed m n) ∙ refusal_reversed m.kind n p (link_at m n),
  ap
      (λ (ls : List (Option Link)). record { kind = m.kind; start = m.goal; goal = m.start; height = above m.height; links = ls; estimates = (returned m).estimates })
      (priced_mapped reversed refl p m.links n (priced_reversed p (link_at m n))),
)

-- what a price leaves
pub left : (m : Meaning) (n : ℕ) (p : Price) →
    returned (unless (refusal m n p) m (priced m n p)) ≡ unless (refusal (returned m) n p) (returned m) (priced (returned m) n p)
left m n p = set_through returned m n p (handed_on m n p)

-- the answer below, the other way round, is the return's
pub link_answer : (m : Meaning) (n : ℕ) (o : Option Link) → o ≡ link_at m n → reversed o ≡ link_at (returned m) n
link_answer m n o e = ap reversed e ∙ sym (links_reversed m n)

-- every place has the estimate zero
nth_mapped : (f : Price → Price) (es : List Price) (n : ℕ) → slice_get (map f es) n ≡ option_map f (slice_get es n)
nth_mapped f [] n = refl
nth_mapped f (e ∷ es) zero = refl
nth_mapped f (e ∷ es) (suc n) = nth_mapped f es n

pub estimate_answer : (m : Meaning) (p : ℕ) (o : Option Price) → o ≡ slice_get m.estimates p →
    option_map (λ (_ : Price). zero_of m.kind) o ≡ slice_get (returned m).estimates p
estimate_answer m p o e =
    ap (option_map (λ (_ : Price). zero_of m.kind)) e ∙ sym (nth_mapped (λ (_ : Price). zero_of m.kind) m.estimates p)

pub places_returned : (m : Meaning) → places (returned m) ≡ places m
places_returned m = length-map m.estimates (λ (_ : Price). zero_of m.kind)

pub estimate_returned : (m : Meaning) (p : ℕ) → p < places m → estimate_at (returned m) p ≡ zero_of m.kind
estimate_returned m p l = get_or-map (λ (_ : Price). zero_of m.kind) m.estimates p closed closed l

-- where an estimate has room, zero has
zero_room : (ceiling : ℕ) (ls es : List ℕ) → Room ceiling ls es → Room ceiling ls (replicate (length ls) 0)
zero_room ceiling [] es r = tt
zero_room ceiling (l ∷ ls) [] r = absurd r
zero_room ceiling (l ∷ ls) (e ∷ es) r = (omega (arith, r.0), zero_room ceiling ls es r.1)

zero_law : (k : Kind) (e : Price) → length k.largest ≡ k.long → EstimateLaw k e → EstimateLaw k (zero_of k)
zero_law k closed e h = absurd h
zero_law k (open_at es) e h =
    subst (λ (n : ℕ). Room k.ceiling k.largest (replicate n 0)) e (zero_room k.ceiling k.largest es h)

-- no row of the kind is below zero
zero_least : (xs : List ℕ) (n : ℕ) → length xs ≡ n → row_less xs (replicate n 0) ≡ false
zero_least [] zero e = refl
zero_least [] (suc n) e = absurd (omega arith)
zero_least (x ∷ xs) zero e = refl
zero_least (x ∷ xs) (suc n) e = go (eqb x 0) (zero_least xs n (omega arith)) (le-ltb x 0 (omega arith))
  where
    go : (b : Bool) → row_less xs (replicate n 0) ≡ false → ltb x 0 ≡ false → cond b (row_less xs (replicate n 0)) (ltb x 0) ≡ false
    go true h l = h
    go false h l = l

linked_length : (xs ls : List ℕ) → at_most xs ls ≡ true → length xs ≡ length ls
linked_length [] [] e = refl
linked_length [] (l ∷ ls) e = absurd (false≢true e)
linked_length (x ∷ xs) [] e = absurd (false≢true e)
linked_length (x ∷ xs) (l ∷ ls) e = ap suc (linked_length xs ls (and_parts (leb x l) (at_most xs ls) e).1)

-- along a link the estimate zero is at most the floor and zero
zero_consistent : (k : Kind) (floor : Price) → length k.largest ≡ k.long → linkable k floor ≡ true →
    less (sum k floor (zero_of k)) (zero_of k) ≡ false
zero_consistent k closed e fits = refl
zero_consistent k (open_at xs) e fits = go (all_below k.ceiling (add_rows xs (replicate k.long 0)))
  where
    same : length xs ≡ k.long
    same = linked_length xs k.largest fits ∙ e

    whole : length (add_rows xs (replicate k.long 0)) ≡ k.long
    whole = add_rows_length xs (replicate k.long 0) (same ∙ sym (length-replicate k.long 0)) ∙ same

    go : (b : Bool) → less (cond b (open_at (add_rows xs (replicate k.long 0))) closed) (zero_of k) ≡ false
    go true = zero_least (add_rows xs (replicate k.long 0)) k.long whole
    go false = refl

-- the laws
link_reversed : (k : Kind) (count low high : ℕ) (o : Option Link) → low ≤ high → LinkLaw k count low o → LinkLaw k count high (reversed o)
link_reversed k count low high None le law = tt
link_reversed k count low high (Some l) le law = record {
  from_in = law.to_in;
  to_in = law.from_in;
  apart = λ e. law.apart (sym e);
  floor_open = law.floor_open;
  floor_above = law.floor_above;
  floor_fits = law.floor_fits;
  price_above = law.price_above;
  price_fits = law.price_fits;
  held_by = omega (arith, law.held_by);
}

consistent_reversed : (m : Meaning) → length m.kind.largest ≡ m.kind.long → (o : Option Link) →
    LinkLaw m.kind (places m) m.height o → Consistent (returned m) (reversed o)
consistent_reversed m e None law = tt
consistent_reversed m e (Some l) law =
    (λ i. less (sum m.kind l.floor (estimate_returned m l.from law.from_in i)) (estimate_returned m l.to law.to_in i))
    ∙ zero_consistent m.kind l.floor e law.floor_fits

pub lawful_returned : ReturnLawful
lawful_returned m law =
    let high = above m.height in
    let up = above_more m.height law.height_low in
    let zero_here = zero_law m.kind (estimate_at m m.goal) law.measured (law.estimates_law m.goal law.goal_in) in
    record {
      some = law.some;
      measured = law.measured;
      places_few = omega (arith, places_returned m, law.places_few);
      start_in = omega (arith, places_returned m, law.goal_in);
      goal_in = omega (arith, places_returned m, law.start_in);
      links_few = omega (arith, length-map m.links reversed, law.links_few);
      height_low = above_low m.height;
      links_law = each_mapped reversed refl (LinkLaw m.kind (places m) m.height) (LinkLaw m.kind (places (returned m)) high)
          (λ o l. subst (λ (c : ℕ). LinkLaw m.kind c (above m.height) (reversed o)) (sym (places_returned m)) (link_reversed m.kind (places m) m.height (above m.height) o up l))
          m.links law.links_law;
      estimates_law = λ p l.
          let inside : p < places m = omega (arith, places_returned m, l) in
          subst (EstimateLaw m.kind) (sym (estimate_returned m p inside)) zero_here;
      goal_zero = estimate_returned m m.start law.start_in;
      consistent = each_mapped reversed refl (LinkLaw m.kind (places m) m.height) (Consistent (returned m))
          (consistent_reversed m law.measured) m.links law.links_law;
    }
