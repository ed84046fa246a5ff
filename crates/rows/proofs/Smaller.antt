-- The smaller of two prices.
use Rattle.std.proofs.Common.{◌≡◌, true, false, sym, ap, ◌∙◌, ⊎_elim}
use Rattle.std.proofs.lemmas.Bool.{both_ways, cases_Bool, cond-false, cond-true}
use Rattle.rows.specs.Rows.{Price, less, smaller}
use Rattle.rows.proofs.Order.{less_chain, less_one_way, less_total}

pub smaller_left : (a b : Price) → less a b ≡ true → smaller a b ≡ a
smaller_left a b h = cond-true (less a b) a b h

pub smaller_right : (a b : Price) → less a b ≡ false → smaller a b ≡ b
smaller_right a b h = cond-false (less a b) a b h

pub smaller_swap : (a b : Price) → smaller a b ≡ smaller b a
smaller_swap a b = ⊎_elim
    (λ t. smaller_left a b t ∙ sym (smaller_right b a (less_one_way a b t)))
    (λ f. ⊎_elim
    (λ t. smaller_right a b f ∙ sym (smaller_left b a t))
    (λ k. smaller_right a b f ∙ less_total b a k f ∙ sym (smaller_right b a k)) (cases_Bool (less b a))) (cases_Bool (less a b))

pub smaller_assoc : (a b c : Price) → smaller (smaller a b) c ≡ smaller a (smaller b c)
smaller_assoc a b c = ⊎_elim
    (λ ab. ap (λ x. smaller x c) (smaller_left a b ab) ∙ ⊎_elim
    (λ bc. let ac : less a c ≡ true = ⊎_elim (λ t. t) (λ f. absurd (both_ways (less a b) (less_chain b c a (less_one_way b c bc) f) ab)) (cases_Bool (less a c)) in
    smaller_left a c ac ∙ sym (ap (smaller a) (smaller_left b c bc) ∙ smaller_left a b ab))
    (λ bc. sym (ap (smaller a) (smaller_right b c bc))) (cases_Bool (less b c)))
    (λ ab. ap (λ x. smaller x c) (smaller_right a b ab) ∙ ⊎_elim
    (λ bc. smaller_left b c bc ∙ sym (ap (smaller a) (smaller_left b c bc) ∙ smaller_right a b ab))
    (λ bc. smaller_right b c bc ∙ sym (ap (smaller a) (smaller_right b c bc) ∙ smaller_right a c (less_chain c b a bc ab))) (cases_Bool (less b c))) (cases_Bool (less a b))
