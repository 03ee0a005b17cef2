use Rattle.std.specs.Prelude.{ℕ, Bool, List, [], map, filter, reverse, slice_get, codes}
use Rattle.std.specs.Option.{option_map_or}
use Rattle.std.specs.Str.{bytes_eq}
use Rattle.house_base.specs.Text.{Text}
use Rattle.house_model.specs.Text.{lines, words}

-- A first reading of a printed text, which knows of nothing but its rows and their words.

-- the rows of a text: each of its lines as its words
unfoldable pub rows : List ℕ → List (List Text)
rows text = map words (lines text)

-- the word at an index of a row, counted from 0; the empty word where there is none
abbrev pub word_at : List Text → ℕ → Text
word_at row i = option_map_or (λ w. w) (slice_get row i) []

-- a row on an applicant: its first word says so
abbrev pub is_on_applicant : List Text → Bool
is_on_applicant r = bytes_eq (word_at r 0) (codes "applicant")

-- the rows of the applicants
unfoldable pub applicant_rows : List ℕ → List (List Text)
applicant_rows text = filter is_on_applicant (rows text)

-- the name in a row: its second word
abbrev pub name_in : List Text → Text
name_in r = word_at r 1

-- the chance in a row: its last word but one
abbrev pub chance_in : List Text → Text
chance_in r = word_at (reverse r) 1

-- the chance in the i-th row of an applicant, counted from 0; the empty word where there is none
unfoldable pub chance_at : List ℕ → ℕ → Text
chance_at text i = option_map_or chance_in (slice_get (applicant_rows text) i) []
