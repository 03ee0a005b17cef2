-- Which rows of a file are of the form, and what a file of the form holds.
use Rattle.std.specs.Prelude.{◌≤◌, All, ℕ, ◌+◌, ◌&&◌, ◌||◌, ◌==◌, Bool, not, List, [], ◌∷◌, Option, Some, None, Result, Ok, Err, is_some, option_map, unwrap_or, flat_map, find, length, drop, take, nat_lt, slice_index_or, ok_or, if◌then◌else◌}
use Rattle.std.specs.List.{list_any, range_with_len, slice_split}
use Rattle.std.specs.Option.{option_map_or, option_or, option_to_list}
use Rattle.hex.specs.Hex.{IsBytes}
use Rattle.command_text.specs.Held.{HasNoFeed}
use Rattle.house_base.specs.Text.{Text}
use Rattle.house_model.specs.Heard.{without_last}
use Rattle.house_model.specs.Text.{Lines, is_empty}
use Rattle.house_model.specs.declared.limits.TheConstants.{MOST_LINES}
use Rattle.audit_chain.specs.Form.{is_report, line_in, version_in}
use Rattle.audit_chain.specs.declared.fault.RowFault.{RowFault}
use Rattle.audit_chain.specs.declared.fault.RowFault.TheVariants.{BadRow}

-- what stands between the line feeds of a file. A carriage return is part of it.
abbrev pub parts : Text → List Text
parts bytes = slice_split (λ b. b == 10) bytes

-- the rows of a file: what stands before each line feed
unfoldable pub rows : Text → List Text
rows bytes = without_last (parts bytes)

-- what stands behind the last line feed
unfoldable pub rest : Text → Text
rest bytes = slice_index_or (parts bytes) (length (rows bytes)) []

-- the version that the first of these rows names
abbrev pub version_of : List Text → Option ℕ
version_of [] = None
version_of (first ∷ more) = version_in first

-- a row is of the form behind those before it: the first is a header; behind a header is a line's row, up to the most
-- lines, or the report; behind the report is none
abbrev pub fits_behind : List Text → Text → Bool
fits_behind [] row = is_some (version_in row)
fits_behind (first ∷ before) row =
    not (list_any is_report before)
    && (is_report row || (nat_lt (length before) MOST_LINES && is_some (line_in (unwrap_or (version_in first) 0) row)))

-- the place of the first row that is not of the form, counted from 0
unfoldable pub first_misfit : List Text → Option ℕ
first_misfit rows =
    find (λ i. not (fits_behind (take i rows) (slice_index_or rows i []))) (range_with_len 0 (length rows))

-- the report stands among these rows, behind a header
abbrev pub is_reported : List Text → Bool
is_reported rows = list_any is_report (drop 1 rows)

-- the first row of a file that is not of the form, counted from 1. What stands behind the last line feed is one, and
-- the row that would come next is one where there is no report.
unfoldable pub bad_row : Text → Option ℕ
bad_row bytes =
    option_map (λ i. i + 1)
    (option_or (first_misfit (rows bytes))
    (if is_reported (rows bytes) && is_empty (rest bytes) then None else Some (length (rows bytes))))

-- the lines that rows say
unfoldable pub lines_of : List Text → Lines
lines_of [] = []
lines_of (first ∷ more) = flat_map (λ row. option_to_list (line_in (unwrap_or (version_in first) 0) row)) more

-- the lines that a file holds, or its first row that is not of the form
unfoldable pub lines_held : Text → Result Lines RowFault
lines_held bytes = option_map_or (λ row. Err (BadRow row)) (bad_row bytes) (Ok (lines_of (rows bytes)))

-- the version that the first row of a file names, or that this row is not of the form
unfoldable pub version_held : Text → Result ℕ RowFault
version_held bytes = ok_or (version_of (rows bytes)) (BadRow 1)

-- a line of bytes, without a line feed
abbrev pub IsLine : Text → Type 0
IsLine line = HasNoFeed line × IsBytes line

-- such lines, and no more than the most
pub record AreLines (lines : Lines) : Type 0 where
  pub each : All IsLine lines
  pub few : length lines ≤ MOST_LINES
