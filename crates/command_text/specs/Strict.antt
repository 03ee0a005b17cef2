-- Lines that end with a line feed and nothing else, and have one space between two words.
use Rattle.std.specs.Prelude.{◌-◌, ◌==◌, ◌&&◌, not, Option, Some, None, List, [], ◌∷◌, ◌++◌, length, take, if◌then◌else◌}
use Rattle.std.specs.List.{join_with_byte, slice_split}
use Rattle.std.specs.Str.{bytes_eq}
use Rattle.house_base.specs.Text.{Text}
use Rattle.house_model.specs.Report.{line_of}
use Rattle.house_model.specs.Text.{Lines, words, is_empty}

-- the words of a line, in their order
abbrev pub Row : Type 0
Row = List Text

-- the parts, each but the last with a line feed behind it; a last one that is empty is none
abbrev pub with_feeds : List Text → Lines
with_feeds [] = []
with_feeds (x ∷ []) = if is_empty x then [] else x ∷ []
with_feeds (x ∷ y ∷ more) = (x ++ 10 ∷ []) ∷ with_feeds (y ∷ more)

-- the lines of a text, each with the line feed that ends it; what stands behind the last one is a line without it
unfoldable pub fed_lines : Text → Lines
fed_lines text = with_feeds (slice_split (λ b. b == 10) text)

-- the words of a line but for its last byte
unfoldable pub row_of : Text → Row
row_of line = words (take (length line - 1) line)

-- The words of a strict line: it is these, at least one, with one space between two and a line feed behind the last.
-- None where the line is not strict.
unfoldable pub strict_row : Text → Option Row
strict_row line =
    if not (is_empty (row_of line)) && bytes_eq line (line_of (row_of line)) then Some (row_of line) else None

-- the same of what stands before the line feed
unfoldable pub spelled : Text → Option Row
spelled text =
    if not (is_empty text) && bytes_eq text (join_with_byte 32 (words text)) then Some (words text) else None

-- the words that are left behind one of them, each with the space before it
abbrev pub spelled_behind : Text → Option Row
spelled_behind [] = Some []
spelled_behind (b ∷ text) = if b == 32 then spelled text else None
