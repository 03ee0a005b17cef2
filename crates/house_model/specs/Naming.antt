use Rattle.std.specs.Prelude.{◌≡◌, ◌<◌, ℕ, List, Some, Contains, length, map, slice_get}
use Rattle.house_base.specs.declared.plan.Owner.{Owner}
use Rattle.house_base.specs.Setting.{Setting, IsOwned, size, number_at, name_at}
use Rattle.house_base.specs.Text.{Text}

-- A setting has the names of a register's applicants and persons: each applicant has the name that stands at its
-- register number, and belongs to a person with the name of its person there.
pub record HasNamesOf (applicants : List (Text × Text)) (s : Setting) : Type 0 where
  pub count : size s ≡ length applicants
  pub names : (place : ℕ) → place < size s → slice_get (map (λ a. a.0) applicants) (number_at s place)
      ≡ Some (name_at s place)
  pub persons : (place : ℕ) (owner : Owner) → Contains s.owners owner → IsOwned owner place
      → slice_get (map (λ a. a.1) applicants) (number_at s place) ≡ Some owner.name
