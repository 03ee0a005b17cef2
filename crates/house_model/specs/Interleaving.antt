use Rattle.std.specs.Prelude.{◌≡◌, ℕ, Bool, [], ◌∷◌, ◌++◌, length, filter, nat_le, not, ◌==◌, ◌&&◌, if◌then◌else◌}
use Rattle.std.specs.Str.{bytes_eq}
use Rattle.house_base.specs.declared.phase.Phase.{Phase}
use Rattle.house_base.specs.declared.phase.Phase.TheVariants as phase
use Rattle.house_base.specs.Text.{Text}
use Rattle.house_model.specs.Text.{Lines, words, word}
use Rattle.house_model.specs.Verbs.{is_review}
use Rattle.house_model.specs.Said.{phase_after}
use Rattle.house_model.specs.Isolation.{HaveSameHouse}

-- The orders in which the review lines of many reviewers may come.

-- a number for each phase
abbrev pub phase_number : Phase → ℕ
phase_number phase.Opening = 0
phase_number phase.Reviewing = 1
phase_number phase.Closed = 2
phase_number phase.Drawn = 3

-- the lines that stand in a phase, where these lines come after those before
abbrev pub standing_after : Phase → Lines → Lines → Lines
standing_after p before [] = []
standing_after p before (line ∷ lines) =
    (if phase_number (phase_after before) == phase_number p then line ∷ [] else [])
    ++ standing_after p (before ++ line ∷ []) lines

unfoldable pub standing_in : Phase → Lines → Lines
standing_in p lines = standing_after p [] lines

-- a review line with a second word, which names its reviewer, and one without
abbrev pub names_reviewer : Text → Bool
names_reviewer line = is_review line && nat_le 2 (length (words line))

abbrev pub names_nobody : Text → Bool
names_nobody line = is_review line && not (nat_le 2 (length (words line)))

-- the review lines that name a reviewer
abbrev pub reviews_naming : Text → Lines → Lines
reviews_naming name lines = filter (λ line. names_reviewer line && bytes_eq (word line 1) name) lines

-- Two lists are one in another order of arrival: they have the same lines of the house, in order; in each phase
-- each reviewer has the same review lines, in order; and in each phase equally many name no reviewer.
pub record AreInterleaved (a b : Lines) : Type 0 where
  pub same_house : HaveSameHouse a b
  pub same_reviews : (p : Phase) (name : Text) → reviews_naming name (standing_in p a)
      ≡ reviews_naming name (standing_in p b)
  pub as_many : (p : Phase) → length (filter names_nobody (standing_in p a))
      ≡ length (filter names_nobody (standing_in p b))
