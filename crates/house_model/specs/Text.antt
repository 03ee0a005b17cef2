use Rattle.std.specs.Prelude.{ℕ, ◌-◌, Bool, List, [], ◌∷◌, length, map, filter, take, slice_index, slice_get, ◌==◌, ◌||◌, not, if◌then◌else◌}
use Rattle.std.specs.List.{slice_split}
use Rattle.std.specs.Option.{option_map_or}
use Rattle.house_base.specs.Text.{Text}

-- the lines of a file
abbrev pub Lines : Type 0
Lines = List (List ℕ)

-- the byte of a space or a tab
abbrev pub is_gap : ℕ → Bool
is_gap b = b == 32 || b == 9

abbrev pub is_empty : {A : Type 0} → List A → Bool
is_empty [] = Bool.true
is_empty (x ∷ xs) = Bool.false

-- the words of a line: the maximal runs of bytes other than space and tab
unfoldable pub words : Text → List Text
words line = filter (λ w. not (is_empty w)) (slice_split is_gap line)

-- the word at an index, counted from 0; the empty word where there is none
unfoldable pub word : Text → ℕ → Text
word line i = option_map_or (λ w. w) (slice_get (words line) i) []

-- a line without the one carriage return that may end it
unfoldable pub without_return : Text → Text
without_return line = if slice_index line (length line - 1) == 13 then take (length line - 1) line else line

-- the parts without a last one that is empty
abbrev pub without_last_empty : List Text → List Text
without_last_empty [] = []
without_last_empty (x ∷ []) = if is_empty x then [] else x ∷ []
without_last_empty (x ∷ y ∷ more) = x ∷ without_last_empty (y ∷ more)

-- the lines of a text: what stands between its line feeds, each without the carriage return that ends it.
-- A text that ends with a line feed has no further empty line.
unfoldable pub lines : Text → Lines
lines text = map without_return (without_last_empty (slice_split (λ b. b == 10) text))

-- a line without a word, or with a first word that begins with #
unfoldable pub is_blank : Text → Bool
is_blank line = is_empty (words line) || slice_index (word line 0) 0 == 35
