use Rattle.std.proofs.Common.{◌≡◌, ◌≢◌, ℕ, ◌+◌, ◌<◌, ◌≤◌, List, [], length, get_or, set, map, Contains, IsTrue, Option, Some, None, slice_get, sym, ap, ◌∙◌, subst, inl, inr, arith}
use Rattle.std.specs.Option.{option_map_or, option_map}
use Rattle.std.proofs.lemmas.Bool.{cases_eq}
use Rattle.std.proofs.lemmas.List.{length-set, get_or-set_same, get_or-set_other}
use Rattle.std.proofs.lemmas.Option.{slice_get-map, slice_get-get_or, slice_get_within, get_or_from_slice_get, same_Some}
use Rattle.house_base.specs.Name.{is_name}
use Rattle.house_base.specs.declared.limits.TheConstants.{MOST_OWN}
use Rattle.house_base.specs.declared.plan.Owner.{Owner}
use Rattle.house_base.specs.Setting.{Setting, IsSetting, size}
use Rattle.house_base.proofs.Settings.{end-StandInTurn}
use Rattle.house_base.specs.Text.{Text}
use Rattle.house_base.proofs.InOrderLemmas.{In, In-get_or, In-Contains, In-from_Contains, All-In, map-In}
use Rattle.peer_selection.proofs.CountingLemmas.{below_suc}
use Rattle.house_model.specs.Register.{Register, IsRegister, persons, person_of}
use Rattle.house_model.proofs.AtIndexLemmas.{same_index}
use Rattle.house_model.proofs.GroupLemmas.{firsts-In}
use Rattle.house_model.proofs.RegisterLemmas.{their_persons}
use Rattle.house_model.proofs.RegisterPeopleLemmas.{Apart-persons}
use Rattle.first_assign.specs.FirstPlaces.{HasFirstPlace}

-- The first places of the persons of a register.

pub person_of-read : (reg : Register) (number : ℕ) (t : Text) → slice_get (map (λ a. a.1) reg.applicants) number ≡ Some t → person_of reg number ≡ t
unfolding person_of
person_of-read reg number t e = which (slice_get reg.applicants number) (sym (slice_get-map (λ a. a.1) reg.applicants number) ∙ e)
  where
    which : (o : Option (Text × Text)) → option_map (λ a. a.1) o ≡ Some t → option_map_or (λ a. a.1) o [] ≡ t
    which None h = absurd (let wrong : ⊥ = cc in wrong)
    which (Some a) h = same_Some a.1 t h

-- what a list holds after a write
slice_get-set_same : (xs : List ℕ) (i v : ℕ) → i < length xs → slice_get (set xs i v) i ≡ Some v
slice_get-set_same xs i v l =
    slice_get-get_or (set xs i v) i v (omega (arith, l, length-set xs i v)) ∙ ap Some (get_or-set_same xs i v v l)

slice_get-set_other : (xs : List ℕ) (i j v w : ℕ) → j ≢ i → slice_get xs j ≡ Some w → slice_get (set xs i v) j ≡ Some w
slice_get-set_other xs i j v w ne e =
    slice_get-get_or (set xs i v) j w (omega (arith, slice_get_within xs j w e, length-set xs i v))
    ∙ ap Some (get_or-set_other xs i j v w ne ∙ get_or_from_slice_get xs j w w e)

-- the persons of one applicant more have their first places
pub first_more : (s : Setting) (reg : Register) (table : List ℕ) (number at : ℕ) (owner : Owner) → Contains s.owners owner
    → person_of reg number ≡ owner.name → slice_get (persons reg) at ≡ Some (person_of reg number) → length table ≡ length (persons reg)
    → ((person k : ℕ) → k < number → slice_get (persons reg) person ≡ Some (person_of reg k) → HasFirstPlace s (persons reg) table person)
    → (person k : ℕ) → k < number + 1 → slice_get (persons reg) person ≡ Some (person_of reg k) → HasFirstPlace s (persons reg) (set table at owner.first) person
first_more s reg table number at owner c named here room before person k l e = elim (cases_eq person at) [
  | inl same ↦
      let within = slice_get_within (persons reg) at (person_of reg number) here in
      let read = slice_get-set_same table at owner.first (omega (arith, room, within)) in
      (owner, c, ap (slice_get (persons reg)) same ∙ (here ∙ ap Some named), ap (slice_get (set table at owner.first)) same ∙ read)
  | inr other ↦ elim (below_suc k number (omega (arith, l))) [
    | inl below ↦
        let r = before person k below e in
        (r.0, r.1, r.2, slice_get-set_other table at person owner.first r.0.first other r.3)
    | inr last ↦ absurd (other (same_index (persons reg) person at (person_of reg number) (Apart-persons reg) (e ∙ ap (λ n. Some (person_of reg n)) last) here))
  ]
]

person_among : (reg : Register) (t : Text) → In t (persons reg) → Contains (their_persons reg) t
unfolding persons
person_among reg t m = In-Contains t (their_persons reg) (firsts-In (their_persons reg) t m)

-- each person has an applicant
pub applicant_of : (reg : Register) (person : ℕ) → person < length (persons reg) → (k : ℕ) × (k < length (their_persons reg)) × (slice_get (persons reg) person ≡ Some (person_of reg k))
applicant_of reg person l =
    let t = get_or (persons reg) person [] in
    let c = person_among reg t (In-get_or (persons reg) person [] l) in
    let read = slice_get-get_or (their_persons reg) c.0 t c.1 ∙ ap Some c.2 in
    (c.0, c.1, slice_get-get_or (persons reg) person [] l ∙ ap Some (sym (person_of-read reg c.0 t read)))

-- the persons of a register have names
pub person_formed : (reg : Register) (t : Text) → IsRegister reg → In t (persons reg) → IsTrue (is_name t)
unfolding persons
person_formed reg t h m =
    let r = map-In (λ a. a.1) t reg.applicants (firsts-In (their_persons reg) t m) in
    let P : Text → Type 0 = λ u. IsTrue (is_name u) in
    subst P (sym r.2) (All-In (λ a. IsTrue (is_name a.0) × IsTrue (is_name a.1)) reg.applicants r.0 h.names_formed r.1).1

-- a person's first place is below the number of applicants
pub first_below : (s : Setting) (owner : Owner) → IsSetting s → Contains s.owners owner → owner.first < size s
first_below s owner h (k, within, is) =
    let own = All-In (λ o. (1 ≤ o.own) × (o.own ≤ MOST_OWN)) s.owners owner h.own (In-from_Contains owner s.owners (k, within, is)) in
    omega (arith, (end-StandInTurn 0 s.owners (size s) k owner h.in_turn (slice_get-get_or s.owners k owner within ∙ ap Some is)).1, own.0)
