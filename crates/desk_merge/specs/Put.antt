-- The review lines of a map, put into the lines of a command file.
use Rattle.std.specs.Prelude.{Bool, not, List, [], ◌∷◌, ◌++◌, codes, decimal, map, if◌then◌else◌}
use Rattle.std.specs.FinMap.{entries, retain_keys}
use Rattle.std.specs.List.{join_with_byte}
use Rattle.std.specs.Str.{bytes_eq}
use Rattle.house_base.specs.Text.{Text}
use Rattle.house_model.specs.Text.{Lines, word}
use Rattle.desk_merge.specs.Joined.{Item, Joined}

-- the words of the review line of an item
abbrev pub review_words : Item → List Text
review_words e = codes "review" ∷ e.0.0 ∷ e.0.1 ∷ decimal e.1.1 ∷ []

-- the review line of an item
unfoldable pub review_line : Item → Text
review_line e = join_with_byte 32 (review_words e)

-- the review lines of a map, in the order of its keys
unfoldable pub review_lines : Joined → Lines
review_lines m = map review_line (entries m)

-- a line whose first word is `close`, whatever else stands on it
unfoldable pub is_close : Text → Bool
is_close line = bytes_eq (word line 0) (codes "close")

-- lines with others put in front of the first that passes a test; as they are where none does
abbrev pub put_before : (Text → Bool) → Lines → Lines → Lines
put_before test others [] = []
put_before test others (line ∷ lines) =
    if test line then others ++ (line ∷ lines) else line ∷ put_before test others lines

-- lines with the review lines of a map in front of the first close
unfoldable pub put_in : Lines → Joined → Lines
put_in lines m = put_before is_close (review_lines m) lines

-- what is due of lines: with the reviews, while the first close is waited for, and as they are behind it
abbrev pub due : Bool → Joined → Lines → Lines
due waits m lines = if waits then put_in lines m else lines

-- a map without what one reviewer wrote
unfoldable pub without_reviewer : Text → Joined → Joined
without_reviewer name m = retain_keys m (λ key. not (bytes_eq key.0 name))
