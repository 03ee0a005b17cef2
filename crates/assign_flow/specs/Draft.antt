use Rattle.std.specs.Prelude.{◌≡◌, ℕ, ◌+◌, ◌<◌, true, false, slice_index}
use Rattle.house_base.specs.Grid.{cell}
use Rattle.peer_selection.specs.Counting.{count_below}
use Rattle.peer_selection.specs.Profile.{Pairs}
use Rattle.peer_selection.specs.Shortage.{Demand}
use Rattle.assign_flow.specs.declared.draft.Draft.{Draft}

-- Pairs that go past no need and no room: each may be, and this many are wanting to each reviewer and proposal.
pub record IsDraft (d : Demand) (pairs : Pairs) (unmet spare : ℕ → ℕ) : Type 0 where
  pub permitted : (r p : ℕ) → r < d.side → p < d.side → pairs r p ≡ true → d.may r p ≡ true
  pub needs : (r : ℕ) → r < d.side → count_below (pairs r) d.side + unmet r ≡ d.need r
  pub rooms : (p : ℕ) → p < d.side → count_below (λ r. pairs r p) d.side + spare p ≡ d.room p

-- what is asked of a draft by needs and rooms: the pairs that are free may be
abbrev pub draft_demand : (ℕ → ℕ) → (ℕ → ℕ) → Draft → Demand
draft_demand need room draft = record {
  side = draft.ways.free.side;
  need = need;
  room = room;
  may = cell draft.ways.free;
}

-- the pairs and the numbers of a draft fit these needs and rooms
abbrev pub FitsWithin : (ℕ → ℕ) → (ℕ → ℕ) → Draft → Type 0
FitsWithin need room draft =
    IsDraft (draft_demand need room draft) (cell draft.ways.held) (slice_index draft.unmet.items)
    (slice_index draft.rooms.spare.items)

-- a reviewer can be given a proposal: the pair may be and is not held, and the proposal has room
pub record CanTake (draft : Draft) (reviewer proposal : ℕ) : Type 0 where
  pub below : proposal < draft.ways.free.side
  pub free : cell draft.ways.free reviewer proposal ≡ true
  pub new : cell draft.ways.held reviewer proposal ≡ false
  pub room : 0 < slice_index draft.rooms.spare.items proposal
