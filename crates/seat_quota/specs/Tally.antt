use Rattle.std.specs.Prelude.{◌≡◌, ℕ, ◌<◌, ◌≤◌, List, [], length, map, get_or, slice_index}
use Rattle.house_base.specs.Grid.{cell}
use Rattle.house_base.specs.Setting.{Setting}
use Rattle.peer_selection.specs.Counting.{numbers_below}
use Rattle.peer_selection.specs.Split.{cents_at}
use Rattle.review_desk.specs.Desk.{Marks, IsSetUp, desk_profile, points_at}
use Rattle.seat_quota.specs.Totals.{Shares, HoldsTotals, IsTotals, row_among}

-- A desk with its totals.
pub record DeskTotals : Type 0 where
  pub desk : Marks
  pub totals : Shares

-- a tally that was set up from a plan of this setting: so was its desk, and the totals are those of the desk
pub record IsTally (s : Setting) (t : DeskTotals) : Type 0 where
  pub desk : IsSetUp s t.desk
  pub held : HoldsTotals s t.totals
  pub agree : IsTotals (desk_profile s t.desk) t.totals

-- the proposals of a reviewer, in the order of rising distance
abbrev pub row_at : Marks → ℕ → List ℕ
row_at d r = row_among d.pairs.side (cell d.pairs) r

-- the numbers are the cents that a reviewer gives the proposals of its row, in their order
pub record IsGiven (d : Marks) (r : ℕ) (numbers : List ℕ) : Type 0 where
  pub room : length (row_at d r) ≤ length numbers
  pub value : (i : ℕ) → i < length (row_at d r) → slice_index numbers i ≡ cents_at (map (points_at d r) (row_at d r)) i

-- beside a desk the row of each place is kept, and the cents that are given along it
pub record HoldsRows (d : Marks) (rows cents : List (List ℕ)) : Type 0 where
  pub places : rows ≡ map (row_at d) (numbers_below d.pairs.side)
  pub each : length cents ≡ d.pairs.side
  pub given : (r : ℕ) → r < d.pairs.side → IsGiven d r (get_or cents r [])
