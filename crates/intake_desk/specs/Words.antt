-- What the words of a call of the program ask for.
use Rattle.std.specs.Prelude.{Option, Some, None, List, [], ◌∷◌, Bool, map, String, string_bytes, codes, if◌then◌else◌}
use Rattle.std.specs.Cmp.Lexicographic.{pointwise}
use Rattle.std.specs.Str.{bytes_eq}
use Rattle.house_base.specs.Text.{Text}
use Rattle.intake_desk.specs.declared.words.Asked.{Asked}
use Rattle.intake_desk.specs.declared.words.Asked.TheVariants as asked

-- the words of a program, as their bytes
abbrev pub texts : {Y : Type 0} → List (String Y) → List Text
texts words = map string_bytes words

-- whether the words are this one alone
abbrev pub is_word : Text → List Text → Bool
is_word word words = pointwise bytes_eq words (word ∷ [])

-- what the words ask for; nothing where they are none of the program's
unfoldable pub asked_for : List Text → Option Asked
asked_for words =
    if is_word (codes "intake") words then Some asked.Intake
    else if is_word (codes "show") words then Some asked.Show else None
