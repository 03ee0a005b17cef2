-- What is kept of the lines of a slip behind the second, as they are read.
use Rattle.std.specs.Prelude.{◌≡◌, ◌≢◌, ◌≤◌, ℕ, [], ◌++◌, true, AllPairs, List, length, map, drop, position, slice_index}
use Rattle.house_base.specs.declared.limits.TheConstants.{MOST_APPLICANTS}
use Rattle.house_base.specs.Text.{Text}
use Rattle.house_model.specs.Said.{number}
use Rattle.slip_check.specs.Slip.{score_on}
use Rattle.slip_check.specs.Form.{Rows, are_cells, ballots_in, fault_from, rows_of, before_colon, behind_colon, is_ballot, members_in, word_at}
use Rattle.command_text.specs.Strict.{Row, fed_lines}
use Rattle.std.specs.Option.{option_map_or}
use Rattle.std.specs.Str.{bytes_eq}

-- the points of a cell's word
abbrev pub points_in : Text → ℕ
points_in w = number (behind_colon w)

-- the proposals and the points of words that are cells
pub record AreCells (ws : Row) (proposals : List Text) (points : List ℕ) : Type 0 where
  pub cells : are_cells ws ≡ true
  pub proposals_are : proposals ≡ map before_colon ws
  pub points_are : points ≡ map points_in ws
  pub differ : AllPairs (λ a b. a ≢ b) proposals

-- the person, the proposals and the points of a ballot's line
pub record IsBallotOf (said : Row) (person : Text) (proposals : List Text) (points : List ℕ) : Type 0 where
  pub ballot : is_ballot said ≡ true
  pub person_is : person ≡ word_at said 1
  pub cells_are : AreCells (drop 2 said) proposals points

-- the names of the members, the persons whose ballots were counted, and the members' scores on these
pub record Counted : Type 0 where
  pub members : List Text
  pub voters : List Text
  pub scores : List ℕ

-- these are the members, the voters and the scores of lines of the form
pub record IsCount (rows : Rows) (c : Counted) : Type 0 where
  pub members_are : c.members ≡ members_in rows
  pub voters_are : c.voters ≡ map (λ ballot. ballot.person) (ballots_in rows)
  pub scores_are : c.scores ≡ map (score_on (ballots_in rows)) (members_in rows)
  pub differ : AllPairs (λ a b. a ≢ b) c.members
  pub few : length c.members ≤ MOST_APPLICANTS
  pub few_voters : length c.voters ≤ MOST_APPLICANTS

-- the cents that go to a name, where these go to proposals
abbrev pub cents_for : List ℕ → List Text → Text → ℕ
cents_for cents proposals name = option_map_or (slice_index cents) (position (bytes_eq name) proposals) 0

-- Of a text behind some lines so much was read: lines as their words, of which these were counted, and the rest.
pub record IsReached (start : Rows) (text rest : Text) (number : ℕ) (c : Counted) : Type 0 where
  pub before : Rows
  pub fault : fault_from start (fed_lines text) ≡ fault_from before (fed_lines rest)
  pub rows : start ++ rows_of text ≡ before ++ rows_of rest
  pub count : IsCount before c
  pub number_is : number ≡ length before
  pub behind : 2 ≤ length before

-- two lines, no member's and no ballot's
pub record IsStart (start : Rows) : Type 0 where
  pub two : length start ≡ 2
  pub members : members_in start ≡ []
  pub ballots : ballots_in start ≡ []

-- such lines there are
abbrev pub IsCounted : Counted → Type 0
IsCounted c = (rows : Rows) × IsCount rows c
