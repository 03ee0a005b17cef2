use Rattle.std.proofs.Common.{◌≡◌, ◌≢◌, ℕ, ◌<◌, ◌==◌, [], Contains, IsTrue, Some, None, slice_get, ◌⊎◌, sym, ap, ◌∙◌, inl, inr}
use Rattle.std.specs.Option.{option_map_or, option_map}
use Rattle.std.proofs.lemmas.Bool.{false≢true, eqb-true}
use Rattle.std.proofs.lemmas.Option.{slice_get-map, slice_get-get_or}
use Rattle.house_base.specs.Name.{is_name}
use Rattle.house_base.specs.declared.plan.Person.{Person}
use Rattle.house_base.specs.declared.plan.Owner.{Owner}
use Rattle.house_base.specs.Setting.{Setting, size, names_of, owner_from, name_at}
use Rattle.house_base.proofs.Settings.{Contains-find, find_cases}
use Rattle.house_base.specs.Text.{Text}
use Rattle.house_model.specs.Register.{reviewer_at}

-- The names of persons and of applicants by their places.

-- the person whose first place this is, or none
pub cases_owner : (s : Setting) (r : ℕ) → ((o : Owner) × Contains s.owners o × (o.first ≡ r) × (owner_from s r ≡ Some o)) ⊎ (owner_from s r ≡ None)
unfolding owner_from
cases_owner s r = elim (find_cases (λ o. o.first == r) s.owners) [
  | inl found ↦ inl (found.0, Contains-find (λ o. o.first == r) s.owners found.0 found.1, eqb-true found.0.first r found.2, found.1)
  | inr none ↦ inr none
]

pub reviewer_at-some : (s : Setting) (r : ℕ) (o : Owner) → owner_from s r ≡ Some o → reviewer_at s r ≡ o.name
unfolding reviewer_at
reviewer_at-some s r o e = ap (λ w. option_map_or (λ owner. owner.name) w []) e

pub reviewer_at-none : (s : Setting) (r : ℕ) → owner_from s r ≡ None → reviewer_at s r ≡ []
unfolding reviewer_at
reviewer_at-none s r e = ap (λ w. option_map_or (λ owner. owner.name) w []) e

pub no_name : (t : Text) → IsTrue (is_name t) → t ≢ []
unfolding is_name
no_name t h e = false≢true (ap is_name (sym e) ∙ h)

pub name_at-slice_get : (s : Setting) (p : ℕ) → p < size s → slice_get (names_of s) p ≡ Some (name_at s p)
unfolding name_at
name_at-slice_get s p l =
    let nobody : Person = record { name = []; cluster = 0; number = 0 } in
    let here = slice_get-get_or s.people p nobody l in
    slice_get-map (λ person. person.name) s.people p
    ∙ (ap (option_map (λ person. person.name)) here ∙ sym (ap (λ o. Some (option_map_or (λ person. person.name) o [])) here))
