-- The names that stand at the places of the register numbers.
use Rattle.std.proofs.Common.{◌≡◌, ℕ, suc, ◌+◌, ◌<◌, Bool, true, not, eqb, List, [], ◌∷◌, length, map, All, IsTrue, Option, Some, None, slice_get, refl, sym, ap, ◌∙◌, subst, inl, inr, arith}
use Rattle.std.specs.Prelude.{position, nat_lt}
use Rattle.std.specs.List.{position_or_len}
use Rattle.std.specs.Option.{option_map_or}
use Rattle.std.proofs.lemmas.Bool.{both_ways, cases_Bool, cond-true, cond-false, eqb-true, eq-eqb, lt-ltb, not_from_true, not_from_false}
use Rattle.std.proofs.lemmas.List.{ext_get_or, get_or-map, length-map}
use Rattle.std.proofs.lemmas.Option.{slice_get_within, get_or_from_slice_get}
use Rattle.house_base.specs.Name.{is_name}
use Rattle.house_base.specs.declared.plan.Person.{Person}
use Rattle.house_base.specs.Setting.{Setting, IsSetting, size, number_at, numbers_of, name_at}
use Rattle.house_base.proofs.Settings.{number_at-read}
use Rattle.house_base.specs.Text.{Text}
use Rattle.house_base.proofs.InOrderLemmas.{In, All-In, In-from_Contains, map-In}
use Rattle.peer_selection.specs.Counting.{numbers_below}
use Rattle.peer_selection.proofs.CountingLemmas.{length-numbers_below, get_or-numbers_below}
use Rattle.house_model.specs.Naming.{HasNamesOf}
use Rattle.house_model.specs.Register.{Register}
use Rattle.house_model.specs.Report.{person_at, place_of_number}
use Rattle.house_model.specs.Said.{register, setting, seed_of, seats_of, clusters_of, reviews_of}
use Rattle.house_model.specs.Seeds.{drawn_register, seeded_persons, seeded_register, seeded_setting}
use Rattle.house_model.specs.Text.{Lines}
use Rattle.house_model.proofs.AtIndexLemmas.{In-slice_get}
use Rattle.house_model.proofs.OrderedLemmas.{HasNamesOf-setting_in}
use Rattle.house_model.proofs.OwnReviewLemmas.{owner_of}
use Rattle.house_model.proofs.ReportLemmas.{place_of_number-within}
use Rattle.house_model.proofs.SeedLemmas.{setting_in-seeded, IsOrder-seeded}
use Rattle.house_model.proofs.SeededSettingLemmas.{seeded_persons-moves}

-- The setting that lines give has the names on record, whether persons were placed or their clusters are drawn.

same_applicants : (seed : Option Text) (clusters : ℕ) (reg : Register) → (seeded_register seed clusters reg).applicants ≡ reg.applicants
unfolding drawn_register
same_applicants None clusters reg = refl
same_applicants (Some seed) clusters reg = refl

HasNamesOf-seeded : (seed : Option Text) (seats clusters reviews : ℕ) (reg : Register) → HasNamesOf reg.applicants (seeded_setting seed seats clusters reviews reg)
HasNamesOf-seeded seed seats clusters reviews reg =
    subst (λ l. HasNamesOf l (seeded_setting seed seats clusters reviews reg)) (same_applicants seed clusters reg)
    (subst (λ s. HasNamesOf (seeded_register seed clusters reg).applicants s) (setting_in-seeded seed seats clusters reviews reg)
    (HasNamesOf-setting_in (seeded_register seed clusters reg) (seeded_persons seed reg) (IsOrder-seeded seed clusters reg (seeded_persons-moves seed reg)) seats clusters reviews))

pub HasNamesOf-setting : (lines : Lines) → HasNamesOf (register lines).applicants (setting lines)
unfolding setting
HasNamesOf-setting lines = HasNamesOf-seeded (seed_of lines) (seats_of lines) (clusters_of lines) (reviews_of lines) (register lines)

-- The place of a register number.

first_passes : {X : Type 0} (test : X → Bool) (xs : List X) (x : X) → In x xs → test x ≡ true → (y : X) × (slice_get xs (position_or_len test xs) ≡ Some y) × (test y ≡ true)
first_passes test [] x m passes = absurd m
first_passes test (z ∷ zs) x m passes =
    elim (cases_Bool (test z)) [
      | inl here ↦ (
        z,
        ap (slice_get (z ∷ zs)) (cond-false (not (test z)) (1 + position_or_len test zs) 0 (not_from_true (test z) here)),
        here,
      )
      | inr fails ↦ elim m [
        | inl e ↦ absurd (both_ways (test z) fails (ap test (sym e) ∙ passes))
        | inr later ↦
            let rest = first_passes test zs x later passes in
            let next : position_or_len test (z ∷ zs) ≡ suc (position_or_len test zs) =
            cond-true (not (test z)) (1 + position_or_len test zs) 0 (not_from_false (test z) fails) ∙ omega arith in
            (rest.0, ap (slice_get (z ∷ zs)) next ∙ rest.1, rest.2)
      ]
    ]

position-found : {X : Type 0} (test : X → Bool) (xs : List X) (y : X) → slice_get xs (position_or_len test xs) ≡ Some y → position test xs ≡ Some (position_or_len test xs)
position-found test xs y at =
    cond-true (nat_lt (position_or_len test xs) (length xs)) (Some (position_or_len test xs)) None (lt-ltb (position_or_len test xs) (length xs) (slice_get_within xs (position_or_len test xs) y at))

-- an applicant with this number stands there
number_at-place : (s : Setting) (i : ℕ) → IsSetting s → i < size s → number_at s (place_of_number s i) ≡ i
unfolding place_of_number
number_at-place s i h l =
    let test = λ (person : Person). eqb person.number i in
    let some = map-In (λ person. person.number) i s.people (In-from_Contains i (numbers_of s) (h.each_number i l)) in
    let first = first_passes test s.people some.0 some.1 (eq-eqb some.0.number i (sym some.2)) in
    let at = ap (λ o. option_map_or (λ place. place) o 0) (position-found test s.people first.0 first.1) in
    number_at-read s (option_map_or (λ place. place) (position test s.people) 0) first.0 (ap (slice_get s.people) at ∙ first.1)
    ∙ eqb-true first.0.number i first.2

-- The names at such a place.

module _ (applicants : List (Text × Text)) (s : Setting) (names : HasNamesOf applicants s) (h : IsSetting s) where
  pub name-by_number : (i : ℕ) → i < size s → slice_get (map (λ a. a.0) applicants) i ≡ Some (name_at s (place_of_number s i))
  name-by_number i l =
      ap (slice_get (map (λ a. a.0) applicants)) (sym (number_at-place s i h l)) ∙ names.names (place_of_number s i) (place_of_number-within s i h)

  pub person-by_number : (i : ℕ) → i < size s → slice_get (map (λ a. a.1) applicants) i ≡ Some (person_at s (place_of_number s i))
  person-by_number i l =
      let owner = owner_of s (place_of_number s i) h (place_of_number-within s i h) in
      ap (slice_get (map (λ a. a.1) applicants)) (sym (number_at-place s i h l))
      ∙ (names.persons (place_of_number s i) owner.0 owner.1 owner.2 ∙ ap Some (sym owner.3))

  -- all of them, in register order
  pub names-by_numbers : map (λ i. name_at s (place_of_number s i)) (numbers_below (size s)) ≡ map (λ a. a.0) applicants
  names-by_numbers =
      let many = length-map (numbers_below (size s)) (λ i. name_at s (place_of_number s i)) in
      let all = length-numbers_below (size s) in
      ext_get_or [] (map (λ i. name_at s (place_of_number s i)) (numbers_below (size s))) (map (λ a. a.0) applicants)
      (omega (arith, many, all, names.count, length-map applicants (λ a. a.0)))
      (λ i l.
      let below : i < size s = omega (arith, l, many, all) in
      get_or-map (λ i. name_at s (place_of_number s i)) (numbers_below (size s)) i 0 [] (omega (arith, below, all))
      ∙ (ap (λ k. name_at s (place_of_number s k)) (get_or-numbers_below (size s) i 0 below)
      ∙ sym (get_or_from_slice_get (map (λ a. a.0) applicants) i (name_at s (place_of_number s i)) [] (name-by_number i below))))

  -- where the names on record are of their form, so are those
  module _ (formed : All (λ a. IsTrue (is_name a.0) × IsTrue (is_name a.1)) applicants) where
    pub name-formed : (i : ℕ) → i < size s → is_name (name_at s (place_of_number s i)) ≡ true
    name-formed i l =
        let at = map-In (λ a. a.0) (name_at s (place_of_number s i)) applicants (In-slice_get (map (λ a. a.0) applicants) i (name_at s (place_of_number s i)) (name-by_number i l)) in
        ap is_name at.2 ∙ (All-In (λ a. IsTrue (is_name a.0) × IsTrue (is_name a.1)) applicants at.0 formed at.1).0

    pub person-formed : (i : ℕ) → i < size s → is_name (person_at s (place_of_number s i)) ≡ true
    person-formed i l =
        let at = map-In (λ a. a.1) (person_at s (place_of_number s i)) applicants (In-slice_get (map (λ a. a.1) applicants) i (person_at s (place_of_number s i)) (person-by_number i l)) in
        ap is_name at.2 ∙ (All-In (λ a. IsTrue (is_name a.0) × IsTrue (is_name a.1)) applicants at.0 formed at.1).1
