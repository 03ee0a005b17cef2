-- The slips that a call within its limits gives, and what a text has to say to be right.
use Rattle.std.specs.Prelude.{◌≡◌, ◌≢◌, ℕ, ◌*◌, ◌<◌, ◌≤◌, None, IsTrue, List, length, map, All, AllPairs}
use Rattle.house_base.specs.declared.limits.TheConstants.{MOST_APPLICANTS, MOST_OWN, MOST_POINTS, MOST_REVIEWS, MOST_SEATS}
use Rattle.house_base.specs.Name.{is_name}
use Rattle.house_base.specs.Setting.{size}
use Rattle.house_base.specs.Text.{Text}
use Rattle.house_model.specs.ReadBack.{HasFormedNames}
use Rattle.peer_selection.specs.Laws.{IsAssigned}
use Rattle.peer_selection.specs.Profile.{Profile}
use Rattle.slip_check.specs.Form.{chance_in, fault_in, rows_of, slip_in}
use Rattle.slip_check.specs.Slip.{Ballot, Cell, Slip, worth}

-- a list in which nothing stands twice
abbrev pub AreDifferent : List Text → Type 0
AreDifferent texts = AllPairs (λ a b. a ≢ b) texts

-- a proposal of the form of a name, and points that a review may give
pub record IsCell (c : Cell) : Type 0 where
  pub formed : IsTrue (is_name c.proposal)
  pub most : c.points ≤ MOST_POINTS

-- a person and some of the proposals that it reviews, no more than one person can have
pub record IsBallot (b : Ballot) : Type 0 where
  pub formed : IsTrue (is_name b.person)
  pub some : 1 ≤ length b.cells
  pub few : length b.cells ≤ MOST_REVIEWS * MOST_OWN
  pub cells : All IsCell b.cells
  pub differ : AreDifferent (map (λ cell. cell.proposal) b.cells)

-- a slip within the limits of a call
pub record IsSlip (s : Slip) : Type 0 where
  pub formed : IsTrue (is_name s.name)
  pub seats_in_range : (1 ≤ s.seats) × (s.seats ≤ MOST_SEATS)
  pub persons_in_range : (1 ≤ s.persons) × (s.persons ≤ MOST_APPLICANTS)
  pub some : 1 ≤ length s.members
  pub few : length s.members ≤ MOST_APPLICANTS
  pub members : All (λ name. IsTrue (is_name name)) s.members
  pub members_differ : AreDifferent s.members
  pub few_ballots : length s.ballots ≤ MOST_APPLICANTS
  pub ballots : All IsBallot s.ballots
  pub persons_differ : AreDifferent (map (λ ballot. ballot.person) s.ballots)

-- a profile as a call gives it: its assignment is valid, its names are of their form, and its points within bounds
pub record GivesSlips (f : Profile) : Type 0 where
  pub assigned : IsAssigned f
  pub names : HasFormedNames f.setting
  pub most : (r p : ℕ) → r < size f.setting → p < size f.setting → f.points r p ≤ MOST_POINTS

-- a text of the form that says this slip, and prints this chance
pub record Says (bytes : Text) (s : Slip) (printed : ℕ) : Type 0 where
  pub formed : fault_in bytes ≡ None
  pub slip : slip_in (rows_of bytes) ≡ s
  pub chance : chance_in (rows_of bytes) ≡ printed

-- a text of the form whose printed chance is what its slip is worth
pub record IsRight (bytes : Text) : Type 0 where
  pub formed : fault_in bytes ≡ None
  pub worth : chance_in (rows_of bytes) ≡ worth (slip_in (rows_of bytes))
