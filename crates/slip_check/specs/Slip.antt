-- What a slip says, the slip of an applicant, its text, and the chance that the slip is worth.
use Rattle.std.specs.Prelude.{ℕ, ◌+◌, ◌*◌, ◌==◌, ◌&&◌, ◌||◌, nat_lt, nat_le, Bool, List, [], ◌∷◌, ◌++◌, length, map, filter, flat_map, position, sum, slice_index, decimal, codes}
use Rattle.std.specs.List.{list_any}
use Rattle.std.specs.Option.{option_map_or}
use Rattle.std.specs.Str.{bytes_eq}
use Rattle.house_base.specs.declared.limits.TheConstants.{DOLLAR}
use Rattle.house_base.specs.declared.plan.Owner.{Owner}
use Rattle.house_base.specs.Setting.{Setting, size, cluster_at, name_at}
use Rattle.house_base.specs.Text.{Text}
use Rattle.peer_selection.specs.Counting.{count_below, numbers_below}
use Rattle.peer_selection.specs.Lottery.{chance}
use Rattle.peer_selection.specs.Marks.{marks}
use Rattle.peer_selection.specs.Profile.{Profile, denominator, row}
use Rattle.peer_selection.specs.Split.{cents_at}
use Rattle.house_model.specs.Report.{line_of, over}
use Rattle.command_text.specs.Strict.{Row}

-- a proposal, and the points that it got
pub record Cell : Type 0 where
  pub proposal : Text
  pub points : ℕ

-- a person, and all proposals that it reviewed, by rising distance
pub record Ballot : Type 0 where
  pub person : Text
  pub cells : List Cell

-- What a slip says of an applicant behind its first line: the call's seats and persons, the names of its cluster in
-- place order, and the ballots of all persons who reviewed one of these, in place order.
pub record Slip : Type 0 where
  pub name : Text
  pub seats : ℕ
  pub persons : ℕ
  pub members : List Text
  pub ballots : List Ballot

-- the places of a cluster
unfoldable pub places_in : Setting → ℕ → List ℕ
places_in s j = filter (λ q. cluster_at s q == j) (numbers_below (size s))

-- the cell of a reviewer for the proposal at a place
abbrev pub cell_of : Profile → ℕ → ℕ → Cell
cell_of f r p = record { proposal = name_at f.setting p; points = f.points r p }

-- the ballot of a person: its whole row
unfoldable pub ballot_of : Profile → Owner → Ballot
ballot_of f owner = record { person = owner.name; cells = map (cell_of f owner.first) (row f owner.first) }

-- whether a person reviews one of these places
unfoldable pub reviews_one_of : Profile → List ℕ → Owner → Bool
reviews_one_of f places owner = list_any (f.pairs owner.first) places

-- the slip of the applicant at a place
unfoldable pub slip_of : Profile → ℕ → Slip
slip_of f p = record {
  name = name_at f.setting p;
  seats = f.setting.seats;
  persons = length f.setting.owners;
  members = map (name_at f.setting) (places_in f.setting (cluster_at f.setting p));
  ballots = map (ballot_of f) (filter (reviews_one_of f (places_in f.setting (cluster_at f.setting p))) f.setting.owners);
}

-- The text of a slip, with a chance over a denominator in its first line.

-- proposal:points
unfoldable pub cell_text : Cell → Text
cell_text cell = cell.proposal ++ 58 ∷ decimal cell.points

abbrev pub head_row : ℕ → ℕ → Text → Row
head_row chance den name = codes "slip" ∷ name ∷ codes "chance" ∷ over chance den ∷ []

abbrev pub sizes_row : ℕ → ℕ → Row
sizes_row seats persons = codes "seats" ∷ decimal seats ∷ codes "persons" ∷ decimal persons ∷ []

abbrev pub member_row : Text → Row
member_row name = codes "member" ∷ name ∷ []

abbrev pub ballot_row : Ballot → Row
ballot_row ballot = codes "ballot" ∷ ballot.person ∷ map cell_text ballot.cells

-- the words of all its lines
unfoldable pub slip_rows : ℕ → ℕ → Slip → List Row
slip_rows chance den s =
    (head_row chance den s.name ∷ sizes_row s.seats s.persons ∷ []) ++ map member_row s.members ++ map ballot_row s.ballots

unfoldable pub slip_text : ℕ → ℕ → Slip → Text
slip_text chance den s = flat_map line_of (slip_rows chance den s)

-- the slip of the applicant at a place as it is printed: with its chance, over the persons' dollars
abbrev pub printed_slip : Profile → ℕ → Text
printed_slip f p = slip_text (chance f p) (denominator f.setting) (slip_of f p)

-- What a slip is worth.

-- the cents that a ballot gives a name: those of its cell, and 0 where it has none
unfoldable pub ballot_cents : Ballot → Text → ℕ
ballot_cents b name = option_map_or (cents_at (map (λ cell. cell.points) b.cells))
    (position (bytes_eq name) (map (λ cell. cell.proposal) b.cells)) 0

-- the score of a name: the cents that it gets on all ballots
unfoldable pub score_on : List Ballot → Text → ℕ
score_on ballots name = sum (map (λ b. ballot_cents b name) ballots)

-- the scores of the members, in their order
unfoldable pub scores : Slip → List ℕ
scores s = map (score_on s.ballots) s.members

-- of scores, the one at j goes before the one at i: it is greater, or equal and further up
abbrev pub goes_before : List ℕ → ℕ → ℕ → Bool
goes_before xs i j =
    nat_lt (slice_index xs i) (slice_index xs j) || (slice_index xs j == slice_index xs i && nat_lt j i)

-- the rank at an index among scores: 1 more than those that go before it
unfoldable pub rank_among : List ℕ → ℕ → ℕ
rank_among xs i = 1 + count_below (goes_before xs i) (length xs)

-- The worth of a slip: how many draws below the persons' dollars, in cents, put as many marks as the rank of its name
-- says, or more, into a stretch as wide as the quota of its members. 0 where the name is no member's.
unfoldable pub worth : Slip → ℕ
worth s = option_map_or (λ i. count_below (λ v. nat_le (rank_among (scores s) i)
    (marks 0 (s.seats * sum (scores s)) (s.persons * DOLLAR) v)) (s.persons * DOLLAR))
    (position (bytes_eq s.name) s.members) 0
