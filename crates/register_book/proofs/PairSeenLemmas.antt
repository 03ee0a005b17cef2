use Rattle.std.proofs.Common.{◌≡◌, ℕ, ◌<◌, true, false, ◌&&◌, ◌||◌, not, eqb, List, length, Some, position, bytes_eq, refl, sym, ap, ◌∙◌, inl, inr, arith}
use Rattle.std.proofs.lemmas.Bool.{false≢true, and_parts, and_from, and_left, and_right, or_cases, or_left, not_from_false, not-true}
use Rattle.std.proofs.lemmas.List.{length-map}
use Rattle.house_base.specs.Text.{Text, among}
use Rattle.house_base.proofs.AmongLemmas.{same_text, among-In}
use Rattle.house_model.specs.Register.{Register, names, persons, pair_among}
use Rattle.register_book.specs.Held.{IsBook, register_of, named, pairs_where, text_at}
use Rattle.register_book.specs.PairList.{PairsHeld, numbers_among}
use Rattle.register_book.specs.Places.{PlacesHeld}
use Rattle.name_index.specs.Index.{number_in}
use Rattle.register_book.specs.Roll.{names_in, persons_in}
use Rattle.register_book.specs.Rows.{holds}
use Rattle.register_book.specs.declared.rows.TheConstants.{ROW_BITS}
use Rattle.register_book.proofs.NamedLemmas.{same_bool, pair_among-where, pair_among-where_more, pair_among-named, named-known}
use Rattle.register_book.proofs.RollLemmas.{persons_in-differ}
use Rattle.register_book.proofs.SeenLemmas.{names_seen, persons_seen, barred_seen, pairs_seen, names_kept_apart, numbers_kept, few_kept, found_at}

-- Pairs of names of a register, by what a book holds.

-- what is held already is no more with itself
pub held_already : (pairs : List (Text × Text)) (t u : Text) → pair_among pairs t u ≡ true
    → (a b : Text) → pair_among pairs a b ≡ (pair_among pairs a b || (bytes_eq t a && bytes_eq u b))
held_already pairs t u held a b =
    same_bool (pair_among pairs a b) (pair_among pairs a b || (bytes_eq t a && bytes_eq u b))
    (λ e. or_left (pair_among pairs a b) (bytes_eq t a && bytes_eq u b) e)
    (λ e. elim (or_cases (pair_among pairs a b) (bytes_eq t a && bytes_eq u b) e) [
      | inl before ↦ before
      | inr now ↦
          let both = and_parts (bytes_eq t a) (bytes_eq u b) now in
          ap (λ x. pair_among pairs x b) (sym (same_text t a both.0)) ∙ (ap (pair_among pairs t) (sym (same_text u b both.1)) ∙ held)
    ])

module _ (xs : List (Text × Text)) (places : PlacesHeld) (conflicts : List ℕ) (pairs : PairsHeld) (reg : Register) (seen : register_of xs places conflicts pairs ≡ reg)
    (person name : Text) where
  -- somebody is unknown
  pub person_unknown : among (persons_in xs) person ≡ false → not (among (persons reg) person && among (names reg) name) ≡ true
  person_unknown unknown =
      not_from_false (among (persons reg) person && among (names reg) name)
      (and_left (among (persons reg) person) (among (names reg) name)
      (ap (λ l. among l person) (sym (persons_seen xs places conflicts pairs reg seen)) ∙ unknown))

  pub name_unknown : among (names_in xs) name ≡ false → not (among (persons reg) person && among (names reg) name) ≡ true
  name_unknown unknown =
      not_from_false (among (persons reg) person && among (names reg) name)
      (and_right (among (persons reg) person) (among (names reg) name)
      (ap (λ l. among l name) (sym (names_seen xs places conflicts pairs reg seen)) ∙ unknown))

  -- both are known
  pub both_known : among (persons_in xs) person ≡ true → among (names_in xs) name ≡ true → not (among (persons reg) person && among (names reg) name) ≡ true → ⊥
  both_known known name_known e =
      false≢true (sym (not-true (among (persons reg) person && among (names reg) name) e)
      ∙ and_from (among (persons reg) person) (among (names reg) name)
      (ap (λ l. among l person) (sym (persons_seen xs places conflicts pairs reg seen)) ∙ known)
      (ap (λ l. among l name) (sym (names_seen xs places conflicts pairs reg seen)) ∙ name_known))

module _ (xs : List (Text × Text)) (places : PlacesHeld) (conflicts : List ℕ) (pairs : PairsHeld) (reg : Register) (seen : register_of xs places conflicts pairs ≡ reg)
    (h : IsBook xs places conflicts pairs) (person name : Text) (i j : ℕ)
    (found : position (bytes_eq person) (persons_in xs) ≡ Some i) (name_found : position (bytes_eq name) (names_in xs) ≡ Some j) where
  pub column_within : j < ROW_BITS
  column_within =
      omega (arith, (found_at (names_in xs) name j name_found).1, length-map xs (λ a. a.0), few_kept xs places conflicts pairs h)

  pub numbers_within : (i < length (persons_in xs)) × (j < length xs)
  numbers_within = ((found_at (persons_in xs) person i found).1, omega (arith, (found_at (names_in xs) name j name_found).1, length-map xs (λ a. a.0)))

  -- a conflict is held where its bit is set
  pub barred_by_bit : pair_among reg.barred person name ≡ holds conflicts i j
  barred_by_bit =
      let p = found_at (persons_in xs) person i found in
      let n = found_at (names_in xs) name j name_found in
      ap (λ l. pair_among l person name) (sym (barred_seen xs places conflicts pairs reg seen))
      ∙ (ap (λ t. pair_among (pairs_where (holds conflicts) (persons_in xs) (names_in xs)) t name) (sym p.0)
      ∙ (ap (pair_among (pairs_where (holds conflicts) (persons_in xs) (names_in xs)) (text_at (persons_in xs) i)) (sym n.0)
      ∙ pair_among-where (holds conflicts) (persons_in xs) (names_in xs) i j (persons_in-differ xs) (names_kept_apart xs places conflicts pairs h) p.1 n.1))

  -- a pair is held where its numbers are
  pub pair_by_numbers : pair_among reg.pairs person name ≡ numbers_among pairs.pairs i j
  pair_by_numbers =
      let p = found_at (persons_in xs) person i found in
      let n = found_at (names_in xs) name j name_found in
      let held = named (persons_in xs) (names_in xs) pairs.pairs in
      ap (λ l. pair_among l person name) (sym (pairs_seen xs places conflicts pairs reg seen))
      ∙ (ap (λ t. pair_among held t name) (sym p.0)
      ∙ (ap (pair_among held (text_at (persons_in xs) i)) (sym n.0)
      ∙ pair_among-named (persons_in xs) (names_in xs) pairs.pairs i j (persons_in-differ xs) (names_kept_apart xs places conflicts pairs h)
      (numbers_kept xs places conflicts pairs h) p.1 n.1))

  -- a conflict that is added is the only new one
  pub barred_more : (more : List ℕ) → ((r c : ℕ) → holds more r c ≡ (holds conflicts r c || (eqb r i && eqb c j)))
      → (a b : Text) → pair_among (register_of xs places more pairs).barred a b ≡ (pair_among reg.barred a b || (bytes_eq person a && bytes_eq name b))
  barred_more more step a b =
      let p = found_at (persons_in xs) person i found in
      let n = found_at (names_in xs) name j name_found in
      ap (λ l. pair_among l a b) (sym (barred_seen xs places more pairs (register_of xs places more pairs) refl))
      ∙ (pair_among-where_more (holds conflicts) (holds more) (persons_in xs) (names_in xs) person name
      (among-In (persons_in xs) person p.3) (among-In (names_in xs) name n.3)
      (λ r c. step r c
      ∙ (ap (λ k. holds conflicts r c || (eqb r k && eqb c j)) (sym p.2)
      ∙ ap (λ k. holds conflicts r c || (eqb r (number_in (persons_in xs) person) && eqb c k)) (sym n.2))) a b
      ∙ ap (λ l. pair_among l a b || (bytes_eq person a && bytes_eq name b)) (barred_seen xs places conflicts pairs reg seen))

-- a pair that is held is of persons and applicants on record
pub pair_is_known : (xs : List (Text × Text)) (places : PlacesHeld) (conflicts : List ℕ) (pairs : PairsHeld) (reg : Register) → register_of xs places conflicts pairs ≡ reg
    → IsBook xs places conflicts pairs → (person name : Text) → pair_among reg.pairs person name ≡ true
    → (among (persons_in xs) person ≡ true) × (among (names_in xs) name ≡ true)
pair_is_known xs places conflicts pairs reg seen h person name held =
    named-known (persons_in xs) (names_in xs) pairs.pairs person name (numbers_kept xs places conflicts pairs h)
    (ap (λ l. pair_among l person name) (pairs_seen xs places conflicts pairs reg seen) ∙ held)
