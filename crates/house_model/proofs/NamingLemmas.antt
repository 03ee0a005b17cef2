use Rattle.std.proofs.Common.{◌≡◌, ℕ, [], get_or, map, Some, slice_get, option_map, refl, sym, ap, ◌∙◌, subst, arith}
use Rattle.std.specs.Option.{option_map_or}
use Rattle.std.proofs.lemmas.List.{length-map}
use Rattle.std.proofs.lemmas.Option.{slice_get-map, slice_get-get_or}
use Rattle.house_base.specs.declared.plan.Person.{Person}
use Rattle.house_base.specs.declared.plan.Owner.{Owner}
use Rattle.house_base.specs.Setting.{IsOwned, number_at, name_at}
use Rattle.house_base.specs.Text.{Text}
use Rattle.house_base.proofs.InOrderLemmas.{In, In-get_or, In-from_Contains, map-In}
use Rattle.house_model.specs.Naming.{HasNamesOf}
use Rattle.house_model.specs.Register.{Register, persons, own_people, people, owners, entry, open_setting, registered_setting}
use Rattle.house_model.proofs.GroupLemmas.{In-group}
use Rattle.house_model.proofs.RegisterPeopleLemmas.{person_in, numbered, own_entries, entries, entries-In, length-people, map-map, people-entries}
use Rattle.house_model.proofs.RegisterPlaceLemmas.{applicant_at}
use Rattle.house_model.proofs.RegisterSettingLemmas.{own_place, number_at-get_or}

-- The setting of a register has the names of its applicants and persons.

-- an applicant in place order has the name that stands at its register number
pub name_of_number : (reg : Register) (person : Person) → In person (people reg) → slice_get (map (λ a. a.0) reg.applicants) person.number ≡ Some person.name
name_of_number reg person m =
    let r = map-In (entry reg) person (entries reg) (subst (λ l. In person l) (people-entries reg) m) in
    let read : slice_get (map (λ a. a.0) reg.applicants) r.0.0 ≡ Some r.0.1.0 =
    slice_get-map (λ a. a.0) reg.applicants r.0.0 ∙ ap (option_map (λ a. a.0)) (applicant_at reg r.0 (entries-In reg r.0 r.1)) in
    ap (slice_get (map (λ a. a.0) reg.applicants)) (ap (λ p. p.number) r.2) ∙ (read ∙ ap Some (sym (ap (λ p. p.name) r.2)))

-- a number of one person's applicants is that of an applicant of this person
pub person_of_own : (reg : Register) (person : Text) (number : ℕ) → In number (map (λ p. p.number) (own_people reg person)) → slice_get (map (λ a. a.1) reg.applicants) number ≡ Some person
unfolding own_people
person_of_own reg person number m =
    let r = map-In (λ e. e.0) number (own_entries reg person) (subst (λ l. In number l) (map-map (λ p. p.number) (entry reg) (own_entries reg person)) m) in
    let g = In-group person_in (numbered reg) person r.0 r.1 in
    ap (slice_get (map (λ a. a.1) reg.applicants)) r.2
    ∙ (slice_get-map (λ a. a.1) reg.applicants r.0.0
    ∙ (ap (option_map (λ a. a.1)) (applicant_at reg r.0 g.0) ∙ ap Some g.1))

-- the applicant at a place of a person belongs to that person in the register
person_of_place : (reg : Register) (owner : Owner) (place : ℕ) → In owner (owners reg) → IsOwned owner place
    → slice_get (map (λ a. a.1) reg.applicants) (get_or (map (λ p. p.number) (people reg)) place 0) ≡ Some owner.name
unfolding owners people
person_of_place reg owner place m owned =
    let r = own_place (λ p. p.number) 0 reg 0 (persons reg) [] owner place refl m owned in
    let numbers = map (λ p. p.number) (own_people reg owner.name) in
    ap (slice_get (map (λ a. a.1) reg.applicants)) r.3
    ∙ person_of_own reg owner.name (get_or (map (λ p. p.number) (own_people reg owner.name)) r.0 0)
    (In-get_or (map (λ p. p.number) (own_people reg owner.name)) r.0 0 (omega (arith, r.2, length-map (own_people reg owner.name) (λ p. p.number))))

pub HasNamesOf-registered_setting : (seats clusters reviews : ℕ) (reg : Register) → HasNamesOf reg.applicants (registered_setting seats clusters reviews reg)
unfolding registered_setting open_setting number_at name_at
HasNamesOf-registered_setting seats clusters reviews reg =
    let s = registered_setting seats clusters reviews reg in
    let nobody : Person = record { name = []; cluster = 0; number = 0 } in
    record {
      count = length-people reg;
      names = λ place l.
          let here = slice_get-get_or (people reg) place nobody l in
          let m = In-get_or (people reg) place nobody l in
          ap (λ o. slice_get (map (λ a. a.0) reg.applicants) (option_map_or (λ p. p.number) o 0)) here
          ∙ (name_of_number reg (get_or (people reg) place nobody) m
          ∙ sym (ap (λ o. Some (option_map_or (λ p. p.name) o [])) here));
      persons = λ place owner c owned.
          ap (slice_get (map (λ a. a.1) reg.applicants)) (number_at-get_or s place) ∙ person_of_place reg owner place (In-from_Contains owner (owners reg) c) owned;
    }
