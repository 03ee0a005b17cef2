use Rattle.std.specs.Prelude.{◌≡◌, ℕ, ◌+◌, ◌<◌, ◌∷◌, ◌++◌, false, List, Some, None, map, slice_get, IsTrue}
use Rattle.house_base.specs.Setting.{size, name_at}
use Rattle.house_base.specs.Text.{Text}
use Rattle.peer_selection.specs.Counting.{count_below, sum_below}
use Rattle.peer_selection.specs.FirstAssignment.{IsFirst}
use Rattle.peer_selection.specs.Laws.{IsAssigned, IsRounded}
use Rattle.peer_selection.specs.Lottery.{seats, selected, chance}
use Rattle.peer_selection.specs.Profile.{Pairs, denominator, is_valid, quota}
use Rattle.house_model.specs.declared.goal.Goal.{Goal}
use Rattle.house_model.specs.declared.goal.Goal.TheVariants as goal
use Rattle.house_model.specs.declared.verb.Verb.TheVariants as verb
use Rattle.house_model.specs.Ending.{Ended, stop_of}
use Rattle.house_model.specs.Faults.{fault}
use Rattle.house_model.specs.Interleaving.{AreInterleaved}
use Rattle.house_model.specs.Isolation.{without, IsApplicantOf}
use Rattle.house_model.specs.Printed.{applicant_rows, name_in, chance_at}
use Rattle.house_model.specs.Register.{names}
use Rattle.house_model.specs.Report.{over, place_of_number}
use Rattle.house_model.specs.Reviews.{profile}
use Rattle.house_model.specs.Said.{register, denominator_of, setting, assigned, has_pairs, seal_of, draw_of}
use Rattle.house_model.specs.Seeds.{seed_draw, seed_seal}
use Rattle.house_model.specs.Verbs.{commands}
use Rattle.house_model.specs.Text.{Lines}
use Rattle.house_model.specs.Runs.{end_of, halt, report_of, searches}

-- What is promised of the lines of a call whose report is printed.

-- lines of a whole call: they come to their end, and give a setting, a valid assignment and a draw
pub record AreOfCall (lines : Lines) : Type 0 where
  pub done : end_of goal.Run lines ≡ Ended.Done
  pub assigned : IsAssigned (profile lines)
  pub drawn : draw_of lines < denominator (setting lines)

-- A text has one row for each applicant on record, in register order, with its name. The chance in it is the number of
-- draws, of all that there are, at which the plain lottery selects this applicant, over the number of draws.
pub record ChancesAreCounted (lines : Lines) (text : List ℕ) : Type 0 where
  pub rows : map name_in (applicant_rows text) ≡ names (register lines)
  pub named : (i : ℕ) → i < size (setting lines)
      → slice_get (names (register lines)) i ≡ Some (name_at (setting lines) (place_of_number (setting lines) i))
  pub counted : (i : ℕ) → i < size (setting lines)
      → chance_at text i
      ≡ over (count_below (selected (profile lines) (place_of_number (setting lines) i)) (denominator (setting lines)))
      (denominator (setting lines))

-- An applicant's chance is the same whatever its person writes or leaves out as a reviewer: other lines that differ in
-- nothing else are those of a call with the same setting, and their report has the same chance in each row of an
-- applicant of this person.
pub record OwnReviewsChangeNoChance (lines : Lines) (text : List ℕ) : Type 0 where
  pub still_done : (name : Text) (others : Lines) → without name others ≡ without name lines
      → end_of goal.Run others ≡ Ended.Done
  pub same_setting : (name : Text) (others : Lines) → without name others ≡ without name lines
      → setting others ≡ setting lines
  pub same_chance : (name : Text) (others : Lines) → without name others ≡ without name lines
      → (i : ℕ) (applicant : Text × Text) → slice_get (register lines).applicants i ≡ Some applicant
      → applicant.1 ≡ name → chance_at (report_of others) i ≡ chance_at text i
  pub left_out : (name : Text) (p : ℕ) → IsApplicantOf name lines p
      → chance (profile (without name lines)) p ≡ chance (profile lines) p
  pub rewritten : (name : Text) (others : Lines) (p : ℕ) → IsApplicantOf name lines p
      → without name others ≡ without name lines → chance (profile others) p ≡ chance (profile lines) p

-- the assignment of a goal is valid, and where none was made by hand, it is the first
pub record HasValidAssignment (g : Goal) (lines : Lines) : Type 0 where
  pub valid : IsTrue (is_valid (setting lines) (assigned g lines))
  pub first : has_pairs lines ≡ false → IsFirst (setting lines) (assigned g lines)

-- the seats of each cluster are its quota, rounded down or up where it is not whole, and make all seats
pub record SeatsAreQuotasRounded (lines : Lines) : Type 0 where
  pub rounded : (i : ℕ) → i < (setting lines).clusters
      → IsRounded (seats (profile lines) (i + 1) (draw_of lines)) (quota (profile lines) (i + 1))
      (denominator (setting lines))
  pub all : sum_below (λ i. seats (profile lines) (i + 1) (draw_of lines)) (setting lines).clusters
      ≡ (setting lines).seats

-- over all draws a cluster gets its quota of seats
abbrev pub QuotasAreMeans : Lines → Type 0
QuotasAreMeans lines = (i : ℕ) → i < (setting lines).clusters
    → sum_below (λ v. seats (profile lines) (i + 1) v) (denominator (setting lines)) ≡ quota (profile lines) (i + 1)

-- in each other order of arrival of the reviewers' lines the run is done too, with the same report
pub record OrderOfArrivalChangesNothing (lines : Lines) : Type 0 where
  pub still_done : (others : Lines) → AreInterleaved lines others → end_of goal.Run others ≡ Ended.Done
  pub same_report : (others : Lines) → AreInterleaved lines others → report_of others ≡ report_of lines

-- the draw of a call with a seal is that of a seed that has this seal
pub record IsDrawnUnder (seal : List ℕ) (lines : Lines) : Type 0 where
  pub seed : Text
  pub keeps : seed_seal seed ≡ seal
  pub draws : draw_of lines ≡ seed_draw seed (denominator_of (register lines))

-- the draw keeps to the seal, where there is one
abbrev pub SealIsKept : Lines → Type 0
SealIsKept lines = (seal : List ℕ) → seal_of lines ≡ Some seal → IsDrawnUnder seal lines

-- The lines come to an assignment that has no fault and is looked for, and none is valid.
pub record ComesShort (g : Goal) (lines : Lines) : Type 0 where
  pub before : Lines
  pub line : Text
  pub behind : Lines
  pub parts : lines ≡ before ++ line ∷ behind
  pub unstopped : stop_of (halt g) before ≡ None
  pub assigns : IsTrue (commands verb.Assign line)
  pub faultless : fault g before line ≡ None
  pub searched : IsTrue (searches g before)
  pub none_valid : (pairs : Pairs) → is_valid (setting before) pairs ≡ false
