use Rattle.std.specs.Prelude.{◌≡◌, ℕ, ◌<◌, List, Some, length, slice_get, slice_index}
use Rattle.house_base.specs.declared.limits.TheConstants.{MOST_APPLICANTS}
use Rattle.house_base.specs.declared.plan.Owner.{Owner}
use Rattle.house_base.specs.Setting.{Setting, IsSetting, IsOwned, size, number_at}

-- a table gives the place of each register number
pub record GivesPlaces (s : Setting) (table : List ℕ) : Type 0 where
  pub room : length table ≡ MOST_APPLICANTS
  pub place : (place : ℕ) → place < size s → slice_index table (number_at s place) ≡ place

-- a table gives for each place the index of the person to whom it belongs
pub record GivesOwners (owners : List Owner) (table : List ℕ) : Type 0 where
  pub room : length table ≡ MOST_APPLICANTS
  pub owner : (index place : ℕ) (owner : Owner) → slice_get owners index ≡ Some owner → IsOwned owner place
      → slice_index table place ≡ index

-- what holds of each plan: it is of a setting, and its tables are
pub record IsPlan (s : Setting) (places owners : List ℕ) : Type 0 where
  pub setting : IsSetting s
  pub gives_places : GivesPlaces s places
  pub gives_owners : GivesOwners s.owners owners
