use Rattle.std.specs.Prelude.{ℕ, Bool, false, List, slice_index, slice_index_or}
use Rattle.house_base.specs.Grid.{Square, cell}
use Rattle.peer_selection.specs.Shortage.{Demand, Places}

-- a set of reviewers and a set of proposals, a truth value for each place
pub record Sides : Type 0 where
  pub reviewers : List Bool
  pub proposals : List Bool

-- the places that a list of truth values marks
abbrev pub marked : List Bool → Places
marked marks place = slice_index_or marks place false

-- what is asked by a list of needs, a list of rooms and a square of the pairs that may be
abbrev pub demand_of : List ℕ → List ℕ → Square → Demand
demand_of needs rooms pairs = record {
  side = pairs.side;
  need = slice_index needs;
  room = slice_index rooms;
  may = cell pairs;
}
