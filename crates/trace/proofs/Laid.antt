-- Places written over a buffer from the last slot down, and the route that then stands there.
use Rattle.std.proofs.Common.{◌≡◌, ℕ, suc, ◌≤◌, leb, List, [], ◌∷◌, ◌++◌, reverse, length, drop, set, sym, refl, ap, ◌∙◌, append_assoc, add-one, arith}
use mathlib.Core.List.{reverse-cons}
use Rattle.std.proofs.lemmas.List.{drop-set, length-reverse, length-set}
use Rattle.std.proofs.lemmas.Bool.{cond-true, le-leb}
use Rattle.lifelong.specs.Trace.{shows}
use Rattle.trace.specs.Answers.{written}

-- so that the last of them stands first
abbrev pub laid : List ℕ → List ℕ → List ℕ
laid [] out = out
laid (p ∷ ps) out = laid ps (set out (length ps) p)

laid_reversed : (ps out : List ℕ) → length ps ≤ length out → laid ps out ≡ reverse ps ++ drop (length ps) out
laid_reversed [] out l = refl
laid_reversed (p ∷ ps) out l =
    let n = length ps in
    let long : length ps ≤ length (set out (length ps) p) = omega (arith, length-set out (length ps) p) in
    let dropped : drop n (set out n p) ≡ p ∷ drop (suc n) out = drop-set out n p (omega arith) ∙ ap (λ i. p ∷ drop i out) (add-one n) in
    laid_reversed ps (set out n p) long
    ∙ ap (λ z. reverse ps ++ z) dropped
    ∙ sym (append_assoc (reverse ps) (p ∷ []) (drop (suc n) out))
    ∙ ap (λ z. z ++ drop (suc n) out) (sym (reverse-cons p ps))

pub laid_written : (ps out : List ℕ) → length ps ≤ length out → laid ps out ≡ written (shows (reverse ps)) out
laid_written ps out l =
    let qs = reverse ps in
    let r : length (reverse ps) ≡ length ps = length-reverse ps in
    laid_reversed ps out l ∙ ap (λ n. qs ++ drop n out) (sym r)
    ∙ sym (cond-true (leb (length qs) (length out)) (qs ++ drop (length qs) out) out (le-leb (length qs) (length out) (omega arith)))
