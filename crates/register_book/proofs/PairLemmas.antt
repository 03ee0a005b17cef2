use Rattle.std.proofs.Common.{◌≡◌, ℕ, ◌&&◌, ◌||◌, eqb, List, [], ◌∷◌, ◌++◌, sym, ap, ◌∙◌, inl, inr}
use Rattle.std.specs.List.{list_any}
use Rattle.std.proofs.lemmas.Bool.{cases_eq, eq-eqb, ne_eqb}
use Rattle.std.proofs.lemmas.List.Folds.{list_any-append}
use Rattle.register_book.specs.PairList.{IsPairList, numbers_among}
use Rattle.register_book.specs.Rows.{holds}
use Rattle.register_book.proofs.BitLemmas.{or-false, holds-none}

-- Pairs of numbers.

eqb-swap : (a b : ℕ) → eqb a b ≡ eqb b a
eqb-swap a b = elim (cases_eq a b) [
  | inl e ↦ eq-eqb a b e ∙ sym (eq-eqb b a (sym e))
  | inr ne ↦ ne_eqb a b ne ∙ sym (ne_eqb b a (λ e. ne (sym e)))
]

pub numbers_among-push : (pairs : List (ℕ × ℕ)) (person applicant r c : ℕ)
    → numbers_among (pairs ++ (person, applicant) ∷ []) r c ≡ (numbers_among pairs r c || (eqb r person && eqb c applicant))
unfolding numbers_among
numbers_among-push pairs person applicant r c =
    list_any-append (λ p. eqb p.0 r && eqb p.1 c) pairs ((person, applicant) ∷ [])
    ∙ ap (λ b. numbers_among pairs r c || b)
    (or-false (eqb person r && eqb applicant c)
    ∙ (ap (λ b. b && eqb applicant c) (eqb-swap person r) ∙ ap (λ b. eqb r person && b) (eqb-swap applicant c)))

pub IsPairList-push : (pairs new_pairs : List (ℕ × ℕ)) (rows new_rows : List ℕ) (person applicant : ℕ) → IsPairList pairs rows
    → new_pairs ≡ pairs ++ (person, applicant) ∷ []
    → ((r c : ℕ) → holds new_rows r c ≡ (holds rows r c || (eqb r person && eqb c applicant))) → IsPairList new_pairs new_rows
IsPairList-push pairs new_pairs rows new_rows person applicant h e more r c =
    more r c
    ∙ (ap (λ b. b || (eqb r person && eqb c applicant)) (h r c)
    ∙ (sym (numbers_among-push pairs person applicant r c) ∙ ap (λ l. numbers_among l r c) (sym e)))

pub IsPairList-empty : (pairs : List (ℕ × ℕ)) (rows : List ℕ) → pairs ≡ [] → rows ≡ [] → IsPairList pairs rows
unfolding numbers_among
IsPairList-empty pairs rows e f r c =
    ap (λ l. holds l r c) f ∙ (holds-none r c ∙ ap (λ l. list_any (λ p. eqb p.0 r && eqb p.1 c) l) (sym e))
