-- One line of a file of withdrawals.
use Rattle.std.specs.Prelude.{◌≡◌, ◌⊎◌, Some, None, true, false, [], codes, if◌then◌else◌}
use Rattle.std.specs.Option.{option_map_or}
use Rattle.house_base.specs.Text.{Text}
use Rattle.house_model.specs.Report.{line_of}
use Rattle.house_model.specs.Text.{is_blank, word}
use Rattle.reserve_list.specs.Board.{BoardParts, and_gone, number_of}
use Rattle.reserve_list.specs.Leaving.{form_fault, line_fault, move_words, name_fault}
use Rattle.reserve_list.specs.declared.fault.Moved.{Moved}
use Rattle.reserve_list.specs.declared.fault.Moved.TheVariants as moved
use Rattle.reserve_list.specs.declared.line.Said.{Said}
use Rattle.reserve_list.specs.declared.line.Said.TheVariants as said

-- what a line is read as, whatever the board
abbrev pub SaysAs : Text → Said → Type 0
SaysAs line said.Nothing = is_blank line ≡ true
SaysAs line (said.Withdraw name) = (is_blank line ≡ false) × (form_fault line ≡ None) × (name ≡ word line 1)
SaysAs line (said.Bad reason) = (is_blank line ≡ false) × (form_fault line ≡ Some reason)

-- the board behind a name that can withdraw
unfoldable pub board_without : BoardParts → Text → BoardParts
board_without b name = option_map_or (and_gone b) (number_of b.outcome name) b

-- the board behind a line, and what is written of it
unfoldable pub board_behind : BoardParts → Text → BoardParts
board_behind b line = if is_blank line then b else board_without b (word line 1)

unfoldable pub moves_on : BoardParts → Text → Text
moves_on b line = if is_blank line then [] else line_of (move_words b (word line 1))

-- the word on who moves up
abbrev pub up_text : Moved → Text
up_text (moved.Up name) = name
up_text moved.Nobody = codes "-"

-- after an error the board is as before, or a name that can withdraw has
abbrev pub MayHaveLeft : BoardParts → Text → BoardParts → Type 0
MayHaveLeft before name after = (after ≡ before) ⊎ ((name_fault before name ≡ None) × (after ≡ board_without before name))

-- the same of the name on a line
abbrev pub MayBeBehind : BoardParts → Text → BoardParts → Type 0
MayBeBehind before line after = (after ≡ before) ⊎ ((line_fault before line ≡ None) × (after ≡ board_behind before line))
