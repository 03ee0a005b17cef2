use Rattle.std.specs.Prelude.{◌≡◌, ◌<◌, ℕ, List, Some, Contains, length, slice_get}
use Rattle.house_base.specs.declared.plan.Owner.{Owner}
use Rattle.house_base.specs.Setting.{Setting}
use Rattle.house_base.specs.Text.{Text}

-- a table has at a person's number the first place of that person
abbrev pub HasFirstPlace : Setting → List Text → List ℕ → ℕ → Type 0
HasFirstPlace s persons table person =
    (owner : Owner) × Contains s.owners owner × (slice_get persons person ≡ Some owner.name)
    × (slice_get table person ≡ Some owner.first)

-- a table has the first place of each person
pub record GivesFirstPlaces (s : Setting) (persons : List Text) (table : List ℕ) : Type 0 where
  pub room : length table ≡ length persons
  pub first : (person : ℕ) → person < length persons → HasFirstPlace s persons table person
