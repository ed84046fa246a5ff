-- The trace by standings: from the goal back to the start.
use Rattle.std.specs.Prelude.{◌≡◌, ℕ, zero, suc, ◌≤◌, Bool, false, cond, List, [], ◌∷◌, reverse, Some, None, Option, ◌==◌, ◌≢◌, nat_lt}
use Rattle.rows.specs.Rows.{Kind, Price, is_open, less, sum}
use Rattle.rows.specs.Keys.{in_turn}
use Rattle.chart.specs.Meaning.{Link, Meaning, link_at, places}
use Rattle.chart.specs.Questions.{leads_into}
use Rattle.chart.specs.Routes.{TrueDistance}
use Rattle.lifelong.specs.Standings.{standing_at, through}

-- move: a link taken backwards, with its number, its from place, and from standing plus price
pub record Move : Type 0 where
  pub number : ℕ
  pub from : ℕ
  pub cost : Price

-- the move over a link that has number n
abbrev pub move_over : Kind → List Price → ℕ → Option Link → Option Move
move_over k gs n None = None
move_over k gs n (Some l) = Some (record { number = n; from = l.from; cost = through k gs (Some l) })

-- the smaller cost first, of equals the lower from place, of equals the lower link number
abbrev pub nearer : Move → Move → Bool
nearer a b = in_turn (less a.cost b.cost) (less b.cost a.cost)
    (in_turn (nat_lt a.from b.from) (nat_lt b.from a.from) (nat_lt a.number b.number))

-- the nearer of two moves, if there are any
abbrev pub nearest : Option Move → Option Move → Option Move
nearest None b = b
nearest (Some a) None = Some a
nearest (Some a) (Some b) = cond (nearer b a) (Some b) (Some a)

-- the nearest move over the links of a list into a place, where the first of the list has number n
unfoldable pub best_move : Kind → List Price → ℕ → ℕ → List (Option Link) → Option Move
best_move k gs x n [] = None
best_move k gs x n (l ∷ ls) =
    cond (leads_into x l) (nearest (move_over k gs n l) (best_move k gs x (suc n) ls)) (best_move k gs x (suc n) ls)

-- the move from a place
abbrev pub move : Meaning → List Price → ℕ → Option Move
move m gs x = best_move m.kind gs x 0 m.links

-- a place before the others
abbrev pub onto : ℕ → Option (List ℕ) → Option (List ℕ)
onto x None = None
onto x (Some ps) = Some (x ∷ ps)

-- no move, or one whose cost is closed, leads nowhere
abbrev pub moving : ℕ → Option Move → (ℕ → Option (List ℕ)) → Option (List ℕ)
moving x None rest = None
moving x (Some a) rest = cond (is_open a.cost) (onto x (rest a.from)) None

-- the places from x back to the start, x first, if n moves lead there
unfoldable pub walk : Meaning → List Price → ℕ → ℕ → Option (List ℕ)
walk m gs zero x = cond (x == m.start) (Some (x ∷ [])) None
walk m gs (suc n) x = cond (x == m.start) (Some (x ∷ [])) (moving x (move m gs x) (λ y. walk m gs n y))

-- what a trace answers: a route, the start first; none to show; or it misses the start
pub data Traced : Type 0 where
  shows : List ℕ → Traced
  none : Traced
  misses : Traced

-- turned round, so that the start comes first
abbrev pub traced : Option (List ℕ) → Traced
traced None = misses
traced (Some ps) = shows (reverse ps)

-- where the goal's standing is closed there is none to show; else back from the goal, with as many moves as places
abbrev pub trace : Meaning → List Price → Traced
trace m gs = cond (is_open (standing_at gs m.goal)) (traced (walk m gs (places m) m.goal)) none

-- The same by true distances, which no standing enters.

-- y is the from place of least true distance plus price over the links into x, of equals the lowest number
pub record TrueMove (m : Meaning) (x y : ℕ) : Type 0 where
  pub number : ℕ
  pub link : Link
  pub named : link_at m number ≡ Some link
  pub from_is : link.from ≡ y
  pub to_is : link.to ≡ x
  pub far : Price
  pub is_far : TrueDistance m y far
  pub least : (n : ℕ) (l : Link) (p : Price) → link_at m n ≡ Some l → l.to ≡ x → TrueDistance m l.from p →
      less (sum m.kind p l.price) (sum m.kind far link.price) ≡ false
  pub lowest : (n : ℕ) (l : Link) (p : Price) → link_at m n ≡ Some l → l.to ≡ x → TrueDistance m l.from p →
      sum m.kind p l.price ≡ sum m.kind far link.price → y ≤ l.from

-- the places from x back to the start by such moves, x first
pub data TrueTrace (m : Meaning) : ℕ → List ℕ → Type 0 where
  arrived : TrueTrace m m.start (m.start ∷ [])
  moved : {y : ℕ} {ps : List ℕ} (x : ℕ) → (x ≢ m.start) →
      TrueMove m x y → TrueTrace m y ps → TrueTrace m x (x ∷ ps)
