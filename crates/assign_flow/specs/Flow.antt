use Rattle.std.specs.Prelude.{◌≡◌, ℕ, ◌<◌, Bool, not, ◌&&◌, Option, Some, None, List, IsTrue, if◌then◌else◌}
use Rattle.house_base.specs.Grid.{Square, cell}
use Rattle.peer_selection.specs.Profile.{Pairs}
use Rattle.peer_selection.specs.Shortage.{Demand, is_met}
use Rattle.cut_gap.specs.Cut.{demand_of}

-- What a flow stands for: the needs, the rooms, the pairs that may be, the pairs that are held, and the pairs that may
-- be and are not settled.
pub record FlowParts : Type 0 where
  pub needs : List ℕ
  pub rooms : List ℕ
  pub may : Square
  pub held : Square
  pub free : Square

-- for each settled pair whether it is kept or left out
abbrev pub settled : FlowParts → ℕ → ℕ → Option Bool
settled f r p = if cell f.may r p && not (cell f.free r p) then Some (cell f.held r p) else None

-- what is asked of the pairs
abbrev pub flow_demand : FlowParts → Demand
flow_demand f = demand_of f.needs f.rooms f.may

-- pairs that have what is kept, and nothing that is left out
abbrev pub Agrees : FlowParts → Pairs → Type 0
Agrees f pairs = (r p : ℕ) (kept : Bool) → r < f.may.side → p < f.may.side → settled f r p ≡ Some kept
    → pairs r p ≡ kept

-- some pairs that meet all needs and rooms and agree with what is settled have this one
pub record CanHold (f : FlowParts) (reviewer proposal : ℕ) : Type 0 where
  pub pairs : Pairs
  pub meets : IsTrue (is_met (flow_demand f) pairs)
  pub agrees : Agrees f pairs
  pub holds : IsTrue (pairs reviewer proposal)
