use Rattle.std.specs.Prelude.{ℕ, Bool, false, Option, Some, None, [], ◌∷◌, map, ◌==◌, ◌&&◌, not, nat_le, if◌then◌else◌}
use Rattle.std.specs.Option.{option_map_or, is_none}
use Rattle.house_base.specs.declared.answer.Kind.{Kind}
use Rattle.house_base.specs.declared.answer.Kind.TheVariants as kind
use Rattle.house_base.specs.declared.limits.TheConstants.{MOST_POINTS}
use Rattle.house_base.specs.declared.phase.Phase.{Phase}
use Rattle.house_base.specs.declared.review.ReviewLine.{ReviewLine}
use Rattle.house_base.specs.Setting.{Setting, names_of}
use Rattle.house_base.specs.Text.{Text, among}
use Rattle.peer_selection.specs.Profile.{Pairs, Points}
use Rattle.house_model.specs.Reviews.{is_before_assignment, is_after_close, reviewer_place, proposal_place, first_of_kinds}

-- The kinds under which a review line is set aside, by its parts.

-- the kind by the phase and the number of words: the first that fits
unfoldable pub kind_before : Phase → ReviewLine → Option Kind
kind_before phase line = first_of_kinds (
    (kind.Form, not line.whole)
    ∷ (kind.Early, is_before_assignment phase)
    ∷ (kind.Late, is_after_close phase)
    ∷ [])

-- whether a person of the setting has the name in a part of a line, and whether an applicant has it
abbrev pub is_person : Setting → Option Text → Bool
is_person s name = option_map_or (among (map (λ owner. owner.name) s.owners)) name false

abbrev pub is_applicant : Setting → Option Text → Bool
is_applicant s name = option_map_or (among (names_of s)) name false

-- the places of the reviewer and of the proposal that a line names
unfoldable pub reviewer_of : Setting → ReviewLine → ℕ
reviewer_of s line = option_map_or (reviewer_place s) line.reviewer 0

unfoldable pub proposal_of : Setting → ReviewLine → ℕ
proposal_of s line = option_map_or (proposal_place s) line.proposal 0

-- the points in a line
unfoldable pub points_in : ReviewLine → ℕ
points_in line = option_map_or (λ x. x) line.points 0

-- the kind of a whole line while reviews are taken: the first that fits. It is kept where none does.
unfoldable pub kind_among : Setting → Pairs → ReviewLine → Option Kind
kind_among s pairs line = first_of_kinds (
    (kind.Unknown, not (is_person s line.reviewer && is_applicant s line.proposal))
    ∷ (kind.Unassigned, not (pairs (reviewer_of s line) (proposal_of s line)))
    ∷ (kind.Range, not (option_map_or (λ x. nat_le x MOST_POINTS) line.points false))
    ∷ [])

-- the points after a line: a kept line sets those of its one pair, and all others stay
unfoldable pub points_after : Setting → Pairs → Points → ReviewLine → Points
points_after s pairs points line r p =
    if is_none (kind_among s pairs line) && (r == reviewer_of s line && p == proposal_of s line) then points_in line
    else points r p
