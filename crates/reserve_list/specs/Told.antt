-- What is told of the lines of a whole call and a file of withdrawals, and what is promised of it.
use Rattle.std.specs.Prelude.{◌≡◌, ℕ, ◌<◌, ◌≤◌, ◌++◌, false, Result}
use Rattle.house_base.specs.declared.answer.Reason.{Reason}
use Rattle.house_base.specs.Setting.{size}
use Rattle.house_base.specs.Text.{Text}
use Rattle.peer_selection.specs.Lottery.{chance}
use Rattle.house_model.specs.declared.goal.Goal.TheVariants as goal
use Rattle.house_model.specs.Isolation.{IsApplicantOf, without}
use Rattle.house_model.specs.Report.{OutcomeParts, outcome_of}
use Rattle.house_model.specs.Reviews.{asides_of, profile}
use Rattle.house_model.specs.Runs.{report_of}
use Rattle.house_model.specs.Said.{draw_of, setting}
use Rattle.house_model.specs.Text.{Lines, lines as lines_of}
use Rattle.reserve_list.specs.Board.{fresh_board}
use Rattle.reserve_list.specs.Laws.{AgreeBeside, HaveSameMembers, places_named, text_after}
use Rattle.reserve_list.specs.Leaving.{leaving, left_board, moves_text, reserve_text}
use Rattle.reserve_list.specs.Reserve.{Withdrawn, chance_after}

-- the outcome of the lines of a whole call
abbrev pub outcome_told : Lines → OutcomeParts
outcome_told lines = outcome_of (profile lines) (asides_of goal.Run lines) (draw_of lines)

-- what becomes of them and a file
abbrev pub reserve_told : Text → Lines → Result Text (ℕ × Reason)
reserve_told bytes lines = reserve_text (outcome_told lines) bytes

-- the places of those that the file names
abbrev pub places_leaving : Text → Lines → Withdrawn
places_leaving bytes lines = places_named (setting lines) (leaving (lines_of bytes))

-- A text has the report of the lines, what is written of the withdrawals in a file, and the board behind them by the
-- mechanism. Who stays has no less a chance than in the report, and just that where nobody of its cluster has withdrawn;
-- a file that names the same, in any order, leaves the same board; and the chances are what they are without what its own
-- person wrote as a reviewer.
pub record PassesSeatsOn (lines : Lines) (bytes text : Text) : Type 0 where
  pub printed : text ≡ report_of lines ++ (moves_text (fresh_board (outcome_told lines)) bytes
      ++ text_after (profile lines) (draw_of lines) (places_leaving bytes lines))
  pub no_less : (p : ℕ) → p < size (setting lines) → places_leaving bytes lines p ≡ false
      → chance (profile lines) p ≤ chance_after (profile lines) (places_leaving bytes lines) p
  pub untouched : (p : ℕ) → p < size (setting lines)
      → AgreeBeside (profile lines) p (places_leaving bytes lines) (λ q. false)
      → chance_after (profile lines) (places_leaving bytes lines) p ≡ chance (profile lines) p
  pub any_order : (other : Text) → HaveSameMembers (leaving (lines_of bytes)) (leaving (lines_of other))
      → left_board (fresh_board (outcome_told lines)) other ≡ left_board (fresh_board (outcome_told lines)) bytes
  pub left_out : (name : Text) (p : ℕ) → IsApplicantOf name lines p
      → chance_after (profile (without name lines)) (places_leaving bytes lines) p
      ≡ chance_after (profile lines) (places_leaving bytes lines) p
