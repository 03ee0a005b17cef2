use Rattle.std.specs.Prelude.{◌≡◌, ℕ, ◌+◌, ◌*◌, ◌<◌, ◌≤◌, false, IsTrue, Option, List, length, map, find, slice_index, All}
use Rattle.std.specs.Option.{option_map}
use Rattle.std.specs.Str.{bytes_eq}
use Rattle.house_base.specs.declared.limits.TheConstants.{MOST_POINTS}
use Rattle.house_base.specs.Grid.{Square, cell}
use Rattle.house_base.specs.Setting.{Setting, IsSetting, size, names_of}
use Rattle.house_base.specs.Text.{Text}
use Rattle.peer_selection.specs.Profile.{Points, Profile, is_valid, profile_on}

-- The pairs of an assignment, the points that were given for them, row by row, and the names of the reviewers and of
-- the proposals, in the order of their places.
pub record Marks : Type 0 where
  pub pairs : Square
  pub points : List ℕ
  pub reviewers : List Text
  pub proposals : List Text

-- the points that stand for a reviewer and a proposal
abbrev pub points_at : Marks → Points
points_at desk reviewer proposal = slice_index desk.points (reviewer * desk.pairs.side + proposal)

-- the place of the person of a name
abbrev pub person_under : Setting → Text → Option ℕ
person_under s name = option_map (λ owner. owner.first) (find (λ owner. bytes_eq owner.name name) s.owners)

-- points for each pair of a square, within bounds, and 0 outside the assignment
pub record HoldsPoints (pairs : Square) (points : List ℕ) : Type 0 where
  pub squared : length points ≡ pairs.side * pairs.side
  pub most : All (λ x. x ≤ MOST_POINTS) points
  pub assigned : (r p : ℕ) → r < pairs.side → p < pairs.side → cell pairs r p ≡ false →
      slice_index points (r * pairs.side + p) ≡ 0

-- a desk that was set up from a plan of this setting: its pairs are a valid assignment, its points are within
-- bounds, and its names are those of the persons and of the applicants
pub record IsSetUp (s : Setting) (desk : Marks) : Type 0 where
  pub setting : IsSetting s
  pub side : desk.pairs.side ≡ size s
  pub valid : IsTrue (is_valid s (cell desk.pairs))
  pub most : (r p : ℕ) → r < size s → p < size s → points_at desk r p ≤ MOST_POINTS
  pub reviewers : desk.reviewers ≡ map (λ owner. owner.name) s.owners
  pub proposals : desk.proposals ≡ names_of s

-- the profile of a setting and a desk
abbrev pub desk_profile : Setting → Marks → Profile
desk_profile s desk = profile_on s (cell desk.pairs) (points_at desk)
