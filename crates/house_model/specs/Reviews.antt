use Rattle.std.specs.Prelude.{ℕ, Bool, false, Option, Some, None, List, [], ◌∷◌, ◌++◌, length, filter, find, position, reverse, slice_get, ◌==◌, ◌&&◌, not, if◌then◌else◌}
use Rattle.std.specs.Option.{option_map_or, is_none}
use Rattle.std.specs.Str.{bytes_eq}
use Rattle.house_base.specs.Setting.{Setting, name_at}
use Rattle.house_base.specs.declared.limits.TheConstants.{MOST_POINTS}
use Rattle.house_base.specs.declared.answer.Asides.{Asides}
use Rattle.house_base.specs.declared.answer.Kind.{Kind}
use Rattle.house_base.specs.declared.answer.Kind.TheVariants as kind
use Rattle.house_base.specs.declared.phase.Phase.{Phase}
use Rattle.house_base.specs.declared.phase.Phase.TheVariants as phase
use Rattle.house_base.specs.declared.answer.Took.{Took}
use Rattle.house_base.specs.declared.answer.Took.TheVariants as took
use Rattle.house_base.specs.Answer.{counted, took_as}
use Rattle.house_base.specs.Text.{Text, among}
use Rattle.peer_selection.specs.Profile.{Pairs, Profile}
use Rattle.house_model.specs.declared.goal.Goal.{Goal}
use Rattle.house_model.specs.declared.goal.Goal.TheVariants as goal
use Rattle.house_model.specs.Text.{Lines, words, word}
use Rattle.house_model.specs.Verbs.{is_review}
use Rattle.house_model.specs.Register.{names, persons, reviewer_at}
use Rattle.house_model.specs.Said.{register, phase_after, number, setting, assigned}
use Rattle.house_model.specs.Faults.{is_within}

-- before the assignment
abbrev pub is_before_assignment : Phase → Bool
is_before_assignment phase.Opening = Bool.true
is_before_assignment p = false

-- from the close on
abbrev pub is_after_close : Phase → Bool
is_after_close phase.Closed = Bool.true
is_after_close phase.Drawn = Bool.true
is_after_close p = false

-- the place of the person of a name, which is that of its first applicant
unfoldable pub reviewer_place : Setting → Text → ℕ
reviewer_place s name = option_map_or (λ owner. owner.first) (find (λ owner. bytes_eq owner.name name) s.owners) 0

-- the place of the applicant of a name
unfoldable pub proposal_place : Setting → Text → ℕ
proposal_place s name = option_map_or (λ place. place) (position (λ person. bytes_eq person.name name) s.people) 0

-- whether the person of one name is to review the applicant of another
unfoldable pub is_assigned : Setting → Pairs → Text → Text → Bool
is_assigned s pairs person proposal = pairs (reviewer_place s person) (proposal_place s proposal)

-- the kinds under which a review line after the lines before it may be set aside, in order
unfoldable pub kind_tests : Goal → Lines → Text → List (Kind × Bool)
kind_tests g before line =
    (kind.Form, not (length (words line) == 4))
    ∷ (kind.Early, is_before_assignment (phase_after before))
    ∷ (kind.Late, is_after_close (phase_after before))
    ∷ (
      kind.Unknown,
      not (among (persons (register before)) (word line 1)
          && among (names (register before)) (word line 2)),
    )
    ∷ (kind.Unassigned, not (is_assigned (setting before) (assigned g before) (word line 1) (word line 2)))
    ∷ (kind.Range, not (is_within 0 MOST_POINTS (word line 3)))
    ∷ []

abbrev pub first_of_kinds : List (Kind × Bool) → Option Kind
first_of_kinds [] = None
first_of_kinds (k ∷ ks) = if k.1 then Some k.0 else first_of_kinds ks

-- the kind under which a review line is set aside: the first that fits. It is kept where none does.
unfoldable pub kind_of : Goal → Lines → Text → Option Kind
kind_of g before line = first_of_kinds (kind_tests g before line)

-- what becomes of a line after the lines before it, where it does not end the run: what is set aside is a review line
abbrev pub took_of : Goal → Lines → Text → Took
took_of g before line = if is_review line then took_as (kind_of g before line) else took.Kept

-- the review lines that are kept, where these lines come after those before
abbrev pub kept_after : Lines → Lines → Lines
kept_after before [] = []
kept_after before (line ∷ lines) =
    (if is_review line && is_none (kind_of goal.Run before line) then line ∷ []
    else []) ++ kept_after (before ++ line ∷ []) lines

-- the counts of review lines set aside, where these lines come after those before
abbrev pub asides_after : Goal → Lines → Asides → Lines → Asides
asides_after g before asides [] = asides
asides_after g before asides (line ∷ lines) =
    asides_after g (before ++ line ∷ []) (if is_review line then option_map_or (counted asides) (kind_of g before line) asides else asides) lines

-- nothing set aside
abbrev pub no_asides : Asides
no_asides = record { form = 0; early = 0; late = 0; unknown = 0; unassigned = 0; range = 0 }

unfoldable pub asides_of : Goal → Lines → Asides
asides_of g lines = asides_after g [] no_asides lines

-- the points for the person at one place and the applicant at another: the number of the last kept line on
-- them, or 0
unfoldable pub points_of : Lines → ℕ → ℕ → ℕ
points_of lines r p =
    let s : Setting = setting lines in
    let on_them : Text → Bool =
    λ line. bytes_eq (word line 1) (reviewer_at s r) && bytes_eq (word line 2) (name_at s p) in
    option_map_or (λ line. number (word line 3)) (slice_get (reverse (filter on_them (kept_after [] lines))) 0) 0

-- the profile that the lines give
unfoldable pub profile : Lines → Profile
profile lines = record { setting = setting lines; pairs = assigned goal.Run lines; points = points_of lines }
