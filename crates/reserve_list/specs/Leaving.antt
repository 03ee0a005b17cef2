-- A file of withdrawals: what is refused of it, and what is written of it.
use Rattle.std.specs.Prelude.{◌≡◌, ℕ, ◌+◌, ◌==◌, ◌&&◌, not, Bool, Option, Some, None, Result, Ok, Err, List, [], ◌∷◌, ◌++◌, codes, decimal, filter, flat_map, length, map, take, if◌then◌else◌}
use Rattle.std.specs.Option.{option_map_or}
use Rattle.std.specs.Str.{bytes_eq}
use Rattle.house_base.specs.Name.{is_name}
use Rattle.house_base.specs.Text.{Text}
use Rattle.house_base.specs.declared.answer.Reason.{Reason}
use Rattle.house_base.specs.declared.answer.Reason.TheVariants as reason
use Rattle.peer_selection.specs.Counting.{numbers_below}
use Rattle.house_model.specs.Report.{OutcomeParts, line_of, outcome_text, over}
use Rattle.house_model.specs.Text.{Lines, is_blank, lines, word, words}
use Rattle.reserve_list.specs.Board.{BoardParts, board_after, chance_on, count_of, empty_on, fresh_board, holds_on, is_gone, moves_up, name_on, number_of}

-- a line `withdraw NAME`
unfoldable pub is_withdrawal : Text → Bool
is_withdrawal line = length (words line) == 2 && bytes_eq (word line 0) (codes "withdraw")

-- why a name cannot withdraw on a board: nobody has it, or it has withdrawn
unfoldable pub name_fault : BoardParts → Text → Option Reason
name_fault b name =
    option_map_or (λ i. if is_gone b i then Some reason.Known else None) (number_of b.outcome name) (Some reason.Unknown)

-- why a line that is not blank is refused whatever the board: the first of form and name that fits
unfoldable pub form_fault : Text → Option Reason
form_fault line =
    if not (is_withdrawal line) then Some reason.Form
    else if not (is_name (word line 1)) then Some reason.Name
    else None

-- why a line is refused on a board: the first of form, name, unknown and known that fits
unfoldable pub line_fault : BoardParts → Text → Option Reason
line_fault b line =
    if is_blank line then None
    else option_map_or (λ reason. Some reason) (form_fault line) (name_fault b (word line 1))

-- the names in lines that withdraw, in their order
unfoldable pub leaving : Lines → List Text
leaving lines = map (λ line. word line 1) (filter (λ line. not (is_blank line)) lines)

-- the first line that is refused, by its number, counted from 1, where these lines come after those before
abbrev pub fault_after : BoardParts → Lines → Lines → Option (ℕ × Reason)
fault_after b before [] = None
fault_after b before (line ∷ lines) =
    option_map_or (λ reason. Some (length before + 1, reason)) (line_fault (board_after b (leaving before)) line)
    (fault_after b (before ++ line ∷ []) lines)

-- the first fault of a file on a board
unfoldable pub file_fault : BoardParts → Text → Option (ℕ × Reason)
file_fault b bytes = fault_after b [] (lines bytes)

-- the name of who moves up when a name withdraws, or -
unfoldable pub up_word : BoardParts → Text → Text
up_word b name = option_map_or (λ i. option_map_or (name_on b.outcome) (moves_up b i) (codes "-"))
    (number_of b.outcome name) (codes "-")

-- the words on a withdrawal
unfoldable pub move_words : BoardParts → Text → List Text
move_words b name = codes "withdraw" ∷ name ∷ codes "up" ∷ up_word b name ∷ []

-- the lines on withdrawals, where these names come after those before
abbrev pub moves_after : BoardParts → List Text → List Text → Text
moves_after b before [] = []
moves_after b before (name ∷ names) =
    line_of (move_words (board_after b before) name) ++ moves_after b (before ++ name ∷ []) names

-- the lines on the withdrawals of a file
unfoldable pub moves_text : BoardParts → Text → Text
moves_text b bytes = moves_after b [] (leaving (lines bytes))

-- the board when those that a file names have withdrawn
abbrev pub left_board : BoardParts → Text → BoardParts
left_board b bytes = board_after b (leaving (lines bytes))

-- a board on which some of those that a file names have withdrawn, the first so many of them
abbrev pub IsLeftOf : BoardParts → Text → BoardParts → Type 0
IsLeftOf before bytes after = (count : ℕ) × (after ≡ board_after before (take count (leaving (lines bytes))))

-- how one stands in the end
abbrev pub standing_word : BoardParts → ℕ → Text
standing_word b i = if is_gone b i then codes "gone" else if holds_on b i then codes "yes" else codes "no"

-- the words on a register number
unfoldable pub final_words : BoardParts → ℕ → List Text
final_words b i = codes "final" ∷ name_on b.outcome i ∷ codes "chance" ∷ over (chance_on b i) b.outcome.den
    ∷ standing_word b i ∷ []

-- the lines on the register numbers
unfoldable pub final_lines : BoardParts → Text
final_lines b = flat_map (λ i. line_of (final_words b i)) (numbers_below (count_of b.outcome))

-- the text of a board: each applicant in register order, and the seats that nobody holds
unfoldable pub board_text : BoardParts → Text
board_text b = final_lines b ++ line_of (codes "empty" ∷ decimal (empty_on b) ∷ [])

-- What becomes of an outcome and a file of withdrawals: the first fault of the file; where it has none, the report, the
-- withdrawals and the board behind them.
unfoldable pub reserve_text : OutcomeParts → Text → Result Text (ℕ × Reason)
reserve_text o bytes = option_map_or (λ fault. Err fault) (file_fault (fresh_board o) bytes)
    (Ok (outcome_text o ++ (moves_text (fresh_board o) bytes ++ board_text (left_board (fresh_board o) bytes))))
