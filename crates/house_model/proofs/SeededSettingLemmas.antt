-- The setting that a register makes, whether persons were placed or their clusters are drawn from a seed.
use Rattle.std.proofs.Common.{◌≡◌, ℕ, ◌*◌, List, length, map, All, IsTrue, Option, Some, None, sym, ap, ◌∙◌, subst}
use Rattle.std.specs.List.Sorted.{IsPermutation}
use Rattle.std.proofs.lemmas.List.{length-map}
use Rattle.std.proofs.lemmas.List.Sorted.{IsPermutation-refl, length_permutation}
use Rattle.house_base.specs.declared.limits.TheConstants.{DOLLAR}
use Rattle.house_base.specs.Name.{is_name}
use Rattle.house_base.specs.Setting.{IsSetting}
use Rattle.house_base.specs.Text.{Text}
use Rattle.house_base.proofs.InOrderLemmas.{In, All-In, All-from_In, map-In}
use Rattle.peer_selection.specs.Profile.{denominator}
use Rattle.house_model.specs.ReadBack.{HasFormedNames}
use Rattle.house_model.specs.Register.{Register, persons, owners_from}
use Rattle.house_model.specs.Said.{denominator_of}
use Rattle.house_model.specs.Seeds.{seeded_persons, seeded_register, seeded_setting, open_setting_in, setting_in, drawn_persons, drawn_register}
use Rattle.house_model.proofs.AtIndexLemmas.{In-slice_get}
use Rattle.house_model.proofs.GroupLemmas.{firsts-In}
use Rattle.house_model.proofs.KeyOrderLemmas.{drawn_persons-moves}
use Rattle.house_model.proofs.OrderedLemmas.{IsOrder, people_in, name_of_number_in, IsSetting-setting_in}
use Rattle.house_model.proofs.RegisterSettingLemmas.{names-owners_from, In-owners_from}
use Rattle.house_model.proofs.SeedLemmas.{IsOrder-permutation, IsOrder-drawn, IsOrder-seeded, MakesDrawn, MakesSetting-drawn, setting_in-seeded}

-- the persons in place order are the persons
pub seeded_persons-moves : (seed : Option Text) (reg : Register) → IsPermutation (persons reg) (seeded_persons seed reg)
seeded_persons-moves None reg = IsPermutation-refl (persons reg)
seeded_persons-moves (Some seed) reg = drawn_persons-moves seed reg

pub IsSetting-drawn : (seed : Text) (seats clusters reviews : ℕ) (reg : Register) → MakesDrawn seats clusters reviews reg → IsSetting (seeded_setting (Some seed) seats clusters reviews reg)
IsSetting-drawn seed seats clusters reviews reg h =
    IsSetting-setting_in seats clusters reviews (drawn_register seed clusters reg) (drawn_persons seed reg) (MakesSetting-drawn seats clusters reviews seed reg h)
    (IsOrder-drawn seed clusters reg (drawn_persons seed reg) (IsOrder-permutation reg (drawn_persons seed reg) (drawn_persons-moves seed reg)))

-- Each person counts once in the denominator.

length-owners_from : (reg : Register) (first : ℕ) (order : List Text) → length (owners_from reg first order) ≡ length order
length-owners_from reg first order =
    sym (length-map (owners_from reg first order) (λ owner. owner.name)) ∙ ap length (names-owners_from reg first order)

denominator-in : (order : List Text) (seats clusters reviews : ℕ) (reg : Register) → denominator (setting_in order seats clusters reviews reg) ≡ length order * DOLLAR
unfolding denominator setting_in open_setting_in
denominator-in order seats clusters reviews reg = ap (λ n. n * DOLLAR) (length-owners_from reg 0 order)

pub denominator-seeded : (seed : Option Text) (seats clusters reviews : ℕ) (reg : Register) → denominator (seeded_setting seed seats clusters reviews reg) ≡ denominator_of reg
unfolding denominator_of
denominator-seeded seed seats clusters reviews reg =
    ap denominator (sym (setting_in-seeded seed seats clusters reviews reg))
    ∙ (denominator-in (seeded_persons seed reg) seats clusters reviews (seeded_register seed clusters reg)
    ∙ ap (λ n. n * DOLLAR) (length_permutation (persons reg) (seeded_persons seed reg) (seeded_persons-moves seed reg)))

-- The names are those of the register.

-- the names of its applicants and of their persons are of their form
abbrev pub AreFormedIn : Register → Type 0
AreFormedIn reg = All (λ a. IsTrue (is_name a.0) × IsTrue (is_name a.1)) reg.applicants

name_of_person : (reg : Register) (t : Text) → AreFormedIn reg → In t (persons reg) → IsTrue (is_name t)
unfolding persons
name_of_person reg t h m =
    let at = map-In (λ a. a.1) t reg.applicants (firsts-In (map (λ a. a.1) reg.applicants) t m) in
    ap is_name at.2 ∙ (All-In (λ a. IsTrue (is_name a.0) × IsTrue (is_name a.1)) reg.applicants at.0 h at.1).1

name_of_applicant : (reg : Register) (t : Text) → AreFormedIn reg → In t (map (λ a. a.0) reg.applicants) → IsTrue (is_name t)
name_of_applicant reg t h m =
    let at = map-In (λ a. a.0) t reg.applicants m in
    ap is_name at.2 ∙ (All-In (λ a. IsTrue (is_name a.0) × IsTrue (is_name a.1)) reg.applicants at.0 h at.1).0

HasFormedNames-in : (order : List Text) (seats clusters reviews : ℕ) (reg : Register) → AreFormedIn reg → IsOrder reg order → HasFormedNames (setting_in order seats clusters reviews reg)
unfolding setting_in open_setting_in
HasFormedNames-in order seats clusters reviews reg h o = record {
  persons = All-from_In (λ owner. IsTrue (is_name owner.name)) (owners_from reg 0 order)
      (λ owner m. name_of_person reg owner.name h (o.only owner.name (In-owners_from reg 0 order owner m).0));
  applicants = All-from_In (λ person. IsTrue (is_name person.name)) (people_in reg order)
      (λ person m. name_of_applicant reg person.name h (In-slice_get (map (λ a. a.0) reg.applicants) person.number person.name (name_of_number_in reg order o person m)));
}

AreFormedIn-seeded : (seed : Option Text) (clusters : ℕ) (reg : Register) → AreFormedIn reg → AreFormedIn (seeded_register seed clusters reg)
unfolding drawn_register
AreFormedIn-seeded None clusters reg h = h
AreFormedIn-seeded (Some seed) clusters reg h = h

pub HasFormedNames-seeded : (seed : Option Text) (seats clusters reviews : ℕ) (reg : Register) → AreFormedIn reg → HasFormedNames (seeded_setting seed seats clusters reviews reg)
HasFormedNames-seeded seed seats clusters reviews reg h =
    subst HasFormedNames (setting_in-seeded seed seats clusters reviews reg)
    (HasFormedNames-in (seeded_persons seed reg) seats clusters reviews (seeded_register seed clusters reg) (AreFormedIn-seeded seed clusters reg h)
    (IsOrder-seeded seed clusters reg (seeded_persons-moves seed reg)))
