use Rattle.std.proofs.Common.{◌≡◌, ◌≢◌, ℕ, zero, suc, ◌<◌, Bool, true, false, eqb, ltb, Option, List, [], ◌∷◌, flat_map, length, map, get_or, All, Contains, bytes_eq, IsTrue, Some, None, refl, sym, ap, subst, ◌∙◌, inl, inr, arith}
use Rattle.std.specs.List.{position_or_len, slice_get}
use Rattle.std.specs.Option.{option_map_or}
use Rattle.std.proofs.lemmas.Bool.{true≢false, cases_order, cond-true, eqb-true, eq-eqb, lt-ltb}
use Rattle.std.proofs.lemmas.List.{length-map}
use Rattle.std.proofs.lemmas.List.Folds.{find_at}
use Rattle.std.proofs.lemmas.Option.{slice_get_within}
use Rattle.house_base.specs.declared.plan.Owner.{Owner}
use Rattle.house_base.specs.declared.plan.Person.{Person}
use Rattle.house_base.specs.Name.{is_name}
use Rattle.house_base.specs.Setting.{Setting, IsSetting, size, names_of, owner_from, name_at}
use Rattle.house_base.proofs.Settings.{Contains-find, find-from_Contains, find_cases, owner_from-first}
use Rattle.house_base.specs.Text.{Text, among}
use Rattle.house_base.proofs.InOrderLemmas.{In, In-map, map-In, In-filter, In-flat_map, flat_map-In, In-Contains, In-from_Contains, All-In, InOrder-from_AllPairs, same_element}
use Rattle.house_base.proofs.AmongLemmas.{same_text, bytes_eq-same, among-In, among-same}
use Rattle.house_model.specs.Text.{Lines}
use Rattle.house_model.specs.Register.{Register, names, persons, own_people, entry, reviewer_at}
use Rattle.house_model.specs.Reviews.{reviewer_place, proposal_place}
use Rattle.house_model.specs.Said.{register, seats_of, clusters_of, reviews_of, seed_of, setting}
use Rattle.house_model.specs.Seeds.{drawn_persons, drawn_register, open_setting_in, setting_in, seeded_persons, seeded_register}
use Rattle.house_model.proofs.GroupLemmas.{firsts-In, In-group}
use Rattle.house_model.proofs.RegisterLemmas.{their_persons}
use Rattle.house_model.proofs.RegisterPeopleLemmas.{Numbered, person_in, numbered, own_entries, map-enumerate_from, person_among}
use Rattle.house_model.proofs.RegisterSettingLemmas.{names-owners_from}
use Rattle.house_model.proofs.SeedLemmas.{persons-drawn, setting_in-seeded}
use Rattle.review_desk.proofs.PlaceLemmas.{first-below}
use Rattle.house_core.proofs.DrawnLemmas.{drawn-each, drawn-only}

-- The names of a register in its setting, and the places under them.

-- Names.

-- the persons and the applicants of a register whose persons stand in some order
owners-in : (order : List Text) (seats clusters reviews : ℕ) (reg : Register) → map (λ owner. owner.name) (setting_in order seats clusters reviews reg).owners ≡ order
unfolding setting_in open_setting_in
owners-in order seats clusters reviews reg = names-owners_from reg 0 order

people-in : (order : List Text) (seats clusters reviews : ℕ) (reg : Register) → (setting_in order seats clusters reviews reg).people ≡ flat_map (own_people reg) order
unfolding setting_in open_setting_in
people-in order seats clusters reviews reg = refl

person-registered : (reg : Register) (order : List Text) (x : Person) → In x (flat_map (own_people reg) order) → (e : Numbered) × In e (numbered reg) × (x ≡ entry reg e)
unfolding own_people
person-registered reg order x m =
    let of = flat_map-In (own_people reg) x order m in
    let r = map-In (entry reg) x (own_entries reg of.0) of.2 in
    (r.0, (In-group person_in (numbered reg) of.0 r.0 r.1).0, r.2)

registered-person : (reg : Register) (order : List Text) (e : Numbered) → ((t : Text) → In t (persons reg) → In t order) → In e (numbered reg) → In (entry reg e) (flat_map (own_people reg) order)
unfolding own_people
registered-person reg order e each m =
    In-flat_map (own_people reg) e.1.1 (entry reg e) order (each e.1.1 (person_among reg e m))
    (In-map (entry reg) e (own_entries reg e.1.1) (In-filter (λ x. bytes_eq x.1.1 e.1.1) e (numbered reg) m (bytes_eq-same e.1.1 e.1.1 refl)))

names-numbered : (reg : Register) → map (λ (e : Numbered). e.1.0) (numbered reg) ≡ names reg
names-numbered reg = map-enumerate_from (λ a. a.0) 0 reg.applicants

among-people : (reg : Register) (order : List Text) (t : Text) → ((u : Text) → In u (persons reg) → In u order) →
    among (map (λ person. person.name) (flat_map (own_people reg) order)) t ≡ among (names reg) t
among-people reg order t each =
    let name = λ (e : Numbered). e.1.0 in
    among-same (map (λ person. person.name) (flat_map (own_people reg) order)) (names reg) t
    (λ m.
    let of = map-In (λ person. person.name) t (flat_map (own_people reg) order) m in
    let r = person-registered reg order of.0 of.1 in
    subst (λ l. In t l) (names-numbered reg) (subst (λ y. In y (map name (numbered reg))) (sym (of.2 ∙ ap (λ p. p.name) r.2)) (In-map name r.0 (numbered reg) r.1)))
    (λ m.
    let r = map-In name t (numbered reg) (subst (λ l. In t l) (sym (names-numbered reg)) m) in
    subst (λ y. In y (map (λ person. person.name) (flat_map (own_people reg) order))) (sym r.2)
    (In-map (λ person. person.name) (entry reg r.0) (flat_map (own_people reg) order) (registered-person reg order r.0 each r.1)))

-- the order of the persons under a seed, or without one
seeded-each : (seed : Option Text) (clusters : ℕ) (reg : Register) (t : Text) → In t (persons (seeded_register seed clusters reg)) → In t (seeded_persons seed reg)
seeded-each None clusters reg t m = m
seeded-each (Some seed) clusters reg t m = drawn-each seed reg t (subst (λ l. In t l) (persons-drawn seed clusters reg) m)

among-seeded : (seed : Option Text) (reg : Register) (t : Text) → t ≢ [] → among (seeded_persons seed reg) t ≡ among (persons reg) t
among-seeded None reg t some = refl
among-seeded (Some seed) reg t some = among-same (drawn_persons seed reg) (persons reg) t (drawn-only seed reg t some) (drawn-each seed reg t)

seeded-names : (seed : Option Text) (clusters : ℕ) (reg : Register) → names (seeded_register seed clusters reg) ≡ names reg
unfolding drawn_register
seeded-names None clusters reg = refl
seeded-names (Some seed) clusters reg = refl

-- the lines give such a setting
setting-seeded : (lines : Lines) →
    setting_in (seeded_persons (seed_of lines) (register lines)) (seats_of lines) (clusters_of lines) (reviews_of lines) (seeded_register (seed_of lines) (clusters_of lines) (register lines)) ≡ setting lines
unfolding setting
setting-seeded lines = setting_in-seeded (seed_of lines) (seats_of lines) (clusters_of lines) (reviews_of lines) (register lines)

-- the persons of the setting are those of the register
pub among-persons : (lines : Lines) (t : Text) → t ≢ [] → among (map (λ owner. owner.name) (setting lines).owners) t ≡ among (persons (register lines)) t
among-persons lines t some =
    ap (λ s. among (map (λ owner. owner.name) s.owners) t) (sym (setting-seeded lines))
    ∙ (ap (λ l. among l t) (owners-in (seeded_persons (seed_of lines) (register lines)) (seats_of lines) (clusters_of lines) (reviews_of lines) (seeded_register (seed_of lines) (clusters_of lines) (register lines)))
    ∙ among-seeded (seed_of lines) (register lines) t some)

-- the applicants of the setting are those of the register
pub among-names : (lines : Lines) (t : Text) → among (names_of (setting lines)) t ≡ among (names (register lines)) t
among-names lines t =
    let order = seeded_persons (seed_of lines) (register lines) in
    let reg = seeded_register (seed_of lines) (clusters_of lines) (register lines) in
    ap (λ s. among (names_of s) t) (sym (setting-seeded lines))
    ∙ (ap (λ l. among (map (λ person. person.name) l) t) (people-in (seeded_persons (seed_of lines) (register lines)) (seats_of lines) (clusters_of lines) (reviews_of lines) (seeded_register (seed_of lines) (clusters_of lines) (register lines)))
    ∙ (among-people reg order t (seeded-each (seed_of lines) (clusters_of lines) (register lines))
    ∙ ap (λ l. among l t) (seeded-names (seed_of lines) (clusters_of lines) (register lines))))

-- the names and the persons of these applicants are of the form of names
abbrev pub AreFormed : Register → Type 0
AreFormed reg = All (λ a. IsTrue (is_name a.0) × IsTrue (is_name a.1)) reg.applicants

pub person-formed : (reg : Register) (t : Text) → AreFormed reg → among (persons reg) t ≡ true → is_name t ≡ true
unfolding persons
person-formed reg t formed known =
    let r = map-In (λ a. a.1) t reg.applicants (firsts-In (their_persons reg) t (among-In (persons reg) t known)) in
    ap is_name r.2 ∙ (All-In (λ a. IsTrue (is_name a.0) × IsTrue (is_name a.1)) reg.applicants r.0 formed r.1).1

pub name-formed : (reg : Register) (t : Text) → AreFormed reg → among (names reg) t ≡ true → is_name t ≡ true
name-formed reg t formed known =
    let r = map-In (λ a. a.0) t reg.applicants (among-In (names reg) t known) in
    ap is_name r.2 ∙ (All-In (λ a. IsTrue (is_name a.0) × IsTrue (is_name a.1)) reg.applicants r.0 formed r.1).0

-- a name has a byte
pub name-some : (t : Text) → is_name t ≡ true → t ≢ []
unfolding is_name
name-some t formed empty = true≢false (sym formed ∙ ap is_name empty)

-- The place of a person.

-- tests of which each follows from the other
agree : (a b : Bool) → (a ≡ true → b ≡ true) → (b ≡ true → a ≡ true) → a ≡ b
agree true b to back = sym (to refl)
agree false true to back = back refl
agree false false to back = refl

-- the person of a name
person-found : (s : Setting) (name : Text) → among (map (λ owner. owner.name) s.owners) name ≡ true →
    (owner : Owner) × Contains s.owners owner × (owner.name ≡ name) × (reviewer_place s name ≡ owner.first)
unfolding reviewer_place
person-found s name known =
    let test = λ (o : Owner). bytes_eq o.name name in
    let r = map-In (λ (o : Owner). o.name) name s.owners (among-In (map (λ (o : Owner). o.name) s.owners) name known) in
    let found = find-from_Contains test s.owners r.0 (In-Contains r.0 s.owners r.1) (bytes_eq-same r.0.name name (sym r.2)) in
    (found.0, Contains-find test s.owners found.0 found.1, same_text found.0.name name found.2, ap (λ o. option_map_or (λ (o : Owner). o.first) o 0) found.1)

pub reviewer_place-below : (s : Setting) (name : Text) → IsSetting s → among (map (λ owner. owner.name) s.owners) name ≡ true → reviewer_place s name < size s
reviewer_place-below s name h known =
    let found = person-found s name known in
    omega (arith, found.3, first-below 0 s.owners (size s) found.0 h.own h.in_turn found.1)

reviewer_at-place : (s : Setting) (name : Text) → IsSetting s → among (map (λ owner. owner.name) s.owners) name ≡ true → reviewer_at s (reviewer_place s name) ≡ name
unfolding reviewer_at
reviewer_at-place s name h known =
    let found = person-found s name known in
    ap (reviewer_at s) found.3
    ∙ (ap (λ o. option_map_or (λ (o : Owner). o.name) o []) (owner_from-first s found.0 h found.1) ∙ found.2)

-- the person at a place has the name where the place is that of the name
place-of_reviewer : (s : Setting) (name : Text) (r : ℕ) → IsSetting s → among (map (λ owner. owner.name) s.owners) name ≡ true → name ≢ [] →
    name ≡ reviewer_at s r → r ≡ reviewer_place s name
unfolding reviewer_at owner_from
place-of_reviewer s name r h known some is =
    elim (find_cases (λ (o : Owner). eqb o.first r) s.owners) [
      | inl at ↦
          let found = person-found s name known in
          let among_them = Contains-find (λ (o : Owner). eqb o.first r) s.owners at.0 at.1 in
          let named : name ≡ at.0.name = is ∙ ap (λ o. option_map_or (λ (o : Owner). o.name) o []) at.1 in
          let same : at.0 ≡ found.0 = same_element (λ (o : Owner). o.name) s.owners at.0 found.0
          (InOrder-from_AllPairs (λ a b. a ≢ b) (map (λ (o : Owner). o.name) s.owners) h.owners_differ)
          (In-from_Contains at.0 s.owners among_them) (In-from_Contains found.0 s.owners found.1) (sym named ∙ sym found.2) in
          sym (eqb-true at.0.first r at.2) ∙ (ap (λ (o : Owner). o.first) same ∙ sym found.3)
      | inr none ↦ absurd (some (is ∙ ap (λ o. option_map_or (λ (o : Owner). o.name) o []) none))
    ]

pub is_reviewer-by_place : (s : Setting) (name : Text) (r : ℕ) → IsSetting s → among (map (λ owner. owner.name) s.owners) name ≡ true → name ≢ [] →
    bytes_eq name (reviewer_at s r) ≡ eqb r (reviewer_place s name)
is_reviewer-by_place s name r h known some =
    agree (bytes_eq name (reviewer_at s r)) (eqb r (reviewer_place s name))
    (λ same. eq-eqb r (reviewer_place s name) (place-of_reviewer s name r h known some (same_text name (reviewer_at s r) same)))
    (λ same. bytes_eq-same name (reviewer_at s r) (sym (ap (reviewer_at s) (eqb-true r (reviewer_place s name) same) ∙ reviewer_at-place s name h known)))

-- The place of an applicant.

-- the applicant of a name stands at its place
applicant-found : (s : Setting) (name : Text) → among (names_of s) name ≡ true →
    (person : Person) × (slice_get s.people (proposal_place s name) ≡ Some person) × (person.name ≡ name)
unfolding proposal_place
applicant-found s name known =
    let test = λ (p : Person). bytes_eq p.name name in
    let r = map-In (λ (p : Person). p.name) name s.people (among-In (names_of s) name known) in
    let found = find-from_Contains test s.people r.0 (In-Contains r.0 s.people r.1) (bytes_eq-same r.0.name name (sym r.2)) in
    let at : slice_get s.people (position_or_len test s.people) ≡ Some found.0 = sym (find_at test s.people) ∙ found.1 in
    let first : proposal_place s name ≡ position_or_len test s.people =
    ap (λ o. option_map_or (λ (place : ℕ). place) o 0)
    (cond-true (ltb (position_or_len test s.people) (length s.people)) (Some (position_or_len test s.people)) None
    (lt-ltb (position_or_len test s.people) (length s.people) (slice_get_within s.people (position_or_len test s.people) found.0 at))) in
    (found.0, ap (slice_get s.people) first ∙ at, same_text found.0.name name found.2)

pub proposal_place-below : (s : Setting) (name : Text) → among (names_of s) name ≡ true → proposal_place s name < size s
proposal_place-below s name known = let found = applicant-found s name known in slice_get_within s.people (proposal_place s name) found.0 found.1

name_at-place : (s : Setting) (name : Text) → among (names_of s) name ≡ true → name_at s (proposal_place s name) ≡ name
unfolding name_at
name_at-place s name known =
    let found = applicant-found s name known in
    ap (λ o. option_map_or (λ (p : Person). p.name) o []) found.1 ∙ found.2

name_read : (people : List Person) (k : ℕ) → option_map_or (λ person. person.name) (slice_get people k) [] ≡ get_or (map (λ person. person.name) people) k []
name_read [] k = refl
name_read (person ∷ people) zero = refl
name_read (person ∷ people) (suc k) = name_read people k

-- applicants of one name have one place
same_place : (s : Setting) (i j : ℕ) → IsSetting s → i < size s → j < size s → name_at s i ≡ name_at s j → i ≡ j
unfolding name_at
same_place s i j h il jl same =
    let read : get_or (names_of s) i [] ≡ get_or (names_of s) j [] = sym (name_read s.people i) ∙ (same ∙ name_read s.people j) in
    let many : length (names_of s) ≡ size s = length-map s.people (λ person. person.name) in
    elim (cases_order i j) [
      | inl e ↦ e
      | inr apart ↦ elim apart [
        | inl less ↦ absurd (h.names_differ i j [] less (omega (arith, jl, many)) read)
        | inr more ↦ absurd (h.names_differ j i [] more (omega (arith, il, many)) (sym read))
      ]
    ]

pub is_proposal-by_place : (s : Setting) (name : Text) (p : ℕ) → IsSetting s → among (names_of s) name ≡ true → p < size s →
    bytes_eq name (name_at s p) ≡ eqb p (proposal_place s name)
is_proposal-by_place s name p h known pl =
    agree (bytes_eq name (name_at s p)) (eqb p (proposal_place s name))
    (λ same. eq-eqb p (proposal_place s name)
    (same_place s p (proposal_place s name) h pl (proposal_place-below s name known) (sym (same_text name (name_at s p) same) ∙ sym (name_at-place s name known))))
    (λ same. bytes_eq-same name (name_at s p) (sym (ap (name_at s) (eqb-true p (proposal_place s name) same) ∙ name_at-place s name known)))
