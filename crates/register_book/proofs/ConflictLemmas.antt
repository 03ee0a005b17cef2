use Rattle.std.proofs.Common.{◌≡◌, ℕ, ◌<◌, true, List, length, sym, ap, ◌∙◌, arith}
use Rattle.std.proofs.lemmas.List.{length-map}
use Rattle.house_base.specs.Text.{Text}
use Rattle.house_model.specs.Register.{Register, names, persons, pair_among}
use Rattle.register_book.specs.Held.{IsBook, register_of, text_at}
use Rattle.register_book.specs.PairList.{PairsHeld}
use Rattle.register_book.specs.Places.{PlacesHeld}
use Rattle.register_book.specs.Roll.{names_in, persons_in}
use Rattle.register_book.specs.Rows.{holds}
use Rattle.register_book.proofs.NamedLemmas.{pair_among-where}
use Rattle.register_book.proofs.RollLemmas.{persons_in-differ}
use Rattle.register_book.proofs.SeenLemmas.{applicants_seen, names_seen, persons_seen, barred_seen, names_kept_apart}

-- The conflicts of a person, by numbers.

module _ (xs : List (Text × Text)) (places : PlacesHeld) (conflicts : List ℕ) (pairs : PairsHeld) (reg : Register) (seen : register_of xs places conflicts pairs ≡ reg) (h : IsBook xs places conflicts pairs) where
  pub person_kept : (i : ℕ) → i < length (persons reg) → i < length (persons_in xs)
  person_kept i below = omega (arith, below, ap length (persons_seen xs places conflicts pairs reg seen))

  pub conflict_seen : (i j : ℕ) → i < length (persons reg) → j < length reg.applicants
      → pair_among reg.barred (text_at (persons reg) i) (text_at (names reg) j) ≡ holds conflicts i j
  conflict_seen i j person_below name_below =
      let there = persons_seen xs places conflicts pairs reg seen in
      let named = names_seen xs places conflicts pairs reg seen in
      sym (ap (λ l. pair_among l (text_at (persons_in xs) i) (text_at (names_in xs) j)) (barred_seen xs places conflicts pairs reg seen)
      ∙ (ap (λ l. pair_among reg.barred (text_at l i) (text_at (names_in xs) j)) there
      ∙ ap (λ l. pair_among reg.barred (text_at (persons reg) i) (text_at l j)) named))
      ∙ pair_among-where (holds conflicts) (persons_in xs) (names_in xs) i j (persons_in-differ xs) (names_kept_apart xs places conflicts pairs h) (person_kept i person_below)
      (omega (arith, name_below, ap length (applicants_seen xs places conflicts pairs reg seen), length-map xs (λ a. a.0)))

  pub conflict_known : (i j : ℕ) → holds conflicts i j ≡ true → j < length reg.applicants
  conflict_known i j e = omega (arith, (h.conflicts_kept.known i j e).1, ap length (applicants_seen xs places conflicts pairs reg seen))
