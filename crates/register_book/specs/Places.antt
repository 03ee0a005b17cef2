use Rattle.std.specs.Prelude.{ℕ, List}
use Rattle.house_base.specs.Text.{Text}

-- the persons that have a place with their clusters, in the order in which they came; the cluster of each
-- person by its number, 0 where it has none; and for how many places there is room
pub record PlacesHeld : Type 0 where
  pub placed : List (Text × ℕ)
  pub clusters : List ℕ
  pub room : ℕ
