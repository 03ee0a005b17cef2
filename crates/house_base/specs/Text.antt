use Rattle.std.specs.Prelude.{ℕ, Bool, List}
use Rattle.std.specs.List.{list_any}
use Rattle.std.specs.Str.{bytes_eq}

-- a line, a word or a name, as its bytes
abbrev pub Text : Type 0
Text = List ℕ

-- whether a text is among these
unfoldable pub among : List Text → Text → Bool
among texts t = list_any (bytes_eq t) texts
