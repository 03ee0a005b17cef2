-- The form of a slip, line by line, and what its lines say.
use Rattle.std.specs.Prelude.{ℕ, ◌+◌, ◌*◌, ◌-◌, ◌^◌, ◌==◌, ◌&&◌, ◌||◌, not, nat_lt, nat_le, Bool, true, Option, Some, None, List, [], ◌∷◌, ◌++◌, length, map, filter, drop, slice_index_or, codes, if◌then◌else◌}
use Rattle.std.specs.List.{list_all, before_first, after_first}
use Rattle.std.specs.Option.{option_map_or}
use Rattle.std.specs.Str.{bytes_eq}
use Rattle.house_base.specs.declared.limits.TheConstants.{DOLLAR, MOST_APPLICANTS, MOST_OWN, MOST_POINTS, MOST_REVIEWS, MOST_SEATS}
use Rattle.house_base.specs.Name.{is_name}
use Rattle.house_base.specs.Number.{is_canonical}
use Rattle.house_base.specs.Text.{Text, among}
use Rattle.house_model.specs.Faults.{is_within}
use Rattle.house_model.specs.Said.{number}
use Rattle.house_model.specs.Text.{Lines, is_empty}
use Rattle.slip_check.specs.Slip.{Ballot, Cell, Slip}
use Rattle.command_text.specs.Strict.{Row, fed_lines, row_of, strict_row}

-- the lines of a slip, each as its words
abbrev pub Rows : Type 0
Rows = List Row

-- the word at an index, and the line at an index; nothing where there is none
abbrev pub word_at : Row → ℕ → Text
word_at said i = slice_index_or said i []

abbrev pub row_at : Rows → ℕ → Row
row_at rows i = slice_index_or rows i []

-- what stands before the first slash or colon of a word, and what stands behind it
abbrev pub before_slash : Text → Text
before_slash w = before_first (λ b. b == 47) w

abbrev pub behind_slash : Text → Text
behind_slash w = after_first (λ b. b == 47) w

abbrev pub before_colon : Text → Text
before_colon w = before_first (λ b. b == 58) w

abbrev pub behind_colon : Text → Text
behind_colon w = after_first (λ b. b == 58) w

-- whether a line begins with a word
abbrev pub begins : Text → Row → Bool
begins w said = bytes_eq (word_at said 0) w

-- whether no two texts are equal
abbrev pub all_differ : List Text → Bool
all_differ [] = true
all_differ (t ∷ ts) = not (among ts t) && all_differ ts

-- What the lines say.

-- the cell that a word spells, and the ballot of a line
unfoldable pub cell_in : Text → Cell
cell_in w = record { proposal = before_colon w; points = number (behind_colon w) }

unfoldable pub ballot_in : Row → Ballot
ballot_in said = record { person = word_at said 1; cells = map cell_in (drop 2 said) }

-- the names of the members, and the ballots
unfoldable pub members_in : Rows → List Text
members_in rows = map (λ said. word_at said 1) (filter (begins (codes "member")) rows)

unfoldable pub ballots_in : Rows → List Ballot
ballots_in rows = map ballot_in (filter (begins (codes "ballot")) rows)

-- the chance and the denominator of the first line
unfoldable pub chance_in : Rows → ℕ
chance_in rows = number (before_slash (word_at (row_at rows 0) 3))

unfoldable pub denominator_in : Rows → ℕ
denominator_in rows = number (behind_slash (word_at (row_at rows 0) 3))

-- the slip that the lines say
unfoldable pub slip_in : Rows → Slip
slip_in rows = record {
  name = word_at (row_at rows 0) 1;
  seats = number (word_at (row_at rows 1) 1);
  persons = number (word_at (row_at rows 1) 3);
  members = members_in rows;
  ballots = ballots_in rows;
}

-- The form of each line by itself.

-- a chance of 64 bits and a denominator of any length, both in their one decimal form
unfoldable pub is_share : Text → Bool
is_share w = is_within 0 (2 ^ 64 - 1) (before_slash w) && is_canonical (behind_slash w)

unfoldable pub is_head : Row → Bool
is_head said = length said == 4 && begins (codes "slip") said && is_name (word_at said 1)
    && bytes_eq (word_at said 2) (codes "chance") && is_share (word_at said 3)

unfoldable pub is_sizes : Row → Bool
is_sizes said = length said == 4 && begins (codes "seats") said && is_within 1 MOST_SEATS (word_at said 1)
    && bytes_eq (word_at said 2) (codes "persons") && is_within 1 MOST_APPLICANTS (word_at said 3)

unfoldable pub is_member : Row → Bool
is_member said = length said == 2 && begins (codes "member") said && is_name (word_at said 1)

unfoldable pub is_cell : Text → Bool
is_cell w = is_name (before_colon w) && is_within 0 MOST_POINTS (behind_colon w)

-- cells of different proposals, and no more than one person can have
unfoldable pub are_cells : Row → Bool
are_cells ws = nat_le (length ws) (MOST_REVIEWS * MOST_OWN) && list_all is_cell ws && all_differ (map before_colon ws)

unfoldable pub is_ballot : Row → Bool
is_ballot said = begins (codes "ballot") said && is_name (word_at said 1) && not (is_empty (drop 2 said)) && are_cells (drop 2 said)

-- The form of a line behind those before it.

-- the denominator of the first line is the dollars of the persons that the line names
unfoldable pub is_denominator : Rows → Row → Bool
is_denominator before said = denominator_in before == number (word_at said 3) * DOLLAR

-- a member may still come: no ballot came, not too many members, and none of this name
unfoldable pub may_be_member : Rows → Text → Bool
may_be_member before name = is_empty (ballots_in before) && nat_lt (length (members_in before)) MOST_APPLICANTS
    && not (among (members_in before) name)

-- a ballot may come: a member did, not too many ballots, and none of this person
unfoldable pub may_vote : Rows → Text → Bool
may_vote before person = not (is_empty (members_in before)) && nat_lt (length (ballots_in before)) MOST_APPLICANTS
    && not (among (map (λ ballot. ballot.person) (ballots_in before)) person)

-- a line behind the second is a member's or a ballot that may come
unfoldable pub goes_on : Rows → Row → Bool
goes_on before said =
    (is_member said && may_be_member before (word_at said 1)) || (is_ballot said && may_vote before (word_at said 1))

-- a line is of the form behind those before it
unfoldable pub follows : Rows → Row → Bool
follows before said =
    if length before == 0 then is_head said
    else if length before == 1 then is_sizes said && is_denominator before said
    else goes_on before said

-- the same of a line as it stands in a text
unfoldable pub is_on_form : Rows → Text → Bool
is_on_form before line = option_map_or (follows before) (strict_row line) Bool.false

-- the lines of a text, as their words
unfoldable pub rows_of : Text → Rows
rows_of bytes = map row_of (fed_lines bytes)

-- Where lines behind those before are off the form, by the number of a line, counted from 1: at the first one off it, or,
-- where none is, behind the last, if no member came.
abbrev pub fault_from : Rows → Lines → Option ℕ
fault_from before [] = if is_empty (members_in before) then Some (length before + 1) else None
fault_from before (line ∷ lines) =
    if is_on_form before line then fault_from (before ++ row_of line ∷ []) lines else Some (length before + 1)

-- where a text is off the form of a slip; None where it is of the form
unfoldable pub fault_in : Text → Option ℕ
fault_in bytes = fault_from [] (fed_lines bytes)
