use Rattle.std.specs.Prelude.{◌≡◌, ℕ, ◌<◌, Bool, None, filter, not, ◌&&◌, IsTrue}
use Rattle.std.specs.Str.{bytes_eq}
use Rattle.house_base.specs.Setting.{IsSetting, size}
use Rattle.house_base.specs.Text.{Text}
use Rattle.peer_selection.specs.Profile.{is_valid}
use Rattle.house_model.specs.declared.goal.Goal.TheVariants as goal
use Rattle.house_model.specs.Text.{Lines, word}
use Rattle.house_model.specs.Verbs.{is_review, is_house}
use Rattle.house_model.specs.Report.{person_at}
use Rattle.house_model.specs.Said.{setting, assigned}
use Rattle.house_model.specs.Ending.{Rule}

-- What one person writes as a reviewer, and lists of lines without it.

-- a review line by the person of a name
unfoldable pub is_by : Text → Text → Bool
is_by name line = is_review line && bytes_eq (word line 1) name

-- the lines without those by the person of a name
unfoldable pub without : Text → Lines → Lines
without name lines = filter (λ line. not (is_by name line)) lines

-- two lists with the same lines of the house, in the same order
abbrev pub HaveSameHouse : Lines → Lines → Type 0
HaveSameHouse a b = filter is_house a ≡ filter is_house b

-- lines that give a setting and a valid assignment
pub record GiveAssignment (lines : Lines) : Type 0 where
  pub forms_setting : IsSetting (setting lines)
  pub assigns_validly : IsTrue (is_valid (setting lines) (assigned goal.Run lines))

-- an applicant of the person of a name
abbrev pub IsApplicantOf : Text → Lines → ℕ → Type 0
IsApplicantOf name lines p = (p < size (setting lines)) × (person_at (setting lines) p ≡ name)

-- a rule that refuses no review line, and that answers the same without what one person wrote before
pub record IgnoresReviews (rule : Rule) : Type 0 where
  pub refuses_none : (before : Lines) (line : Text) → IsTrue (is_review line) → rule before line ≡ None
  pub same_without : (name : Text) (before : Lines) (line : Text) → rule (without name before) line ≡ rule before line
