-- The text of words.
use Rattle.std.specs.Prelude.{◌≡◌, ◌++◌, ℕ, List, decimal}
use Rattle.house_model.specs.Report.{over}
use Rattle.line_text.specs.declared.word.Word.{Word}
use Rattle.line_text.specs.declared.word.Word.TheVariants as word

-- the text of a word
abbrev pub written : Word → List ℕ
written (word.Text text) = text.now
written (word.Number n) = decimal n
written (word.Share n den) = over n den

-- a text begins with an old one
abbrev pub Extends : List ℕ → List ℕ → Type 0
Extends old new = (more : List ℕ) × (new ≡ old ++ more)
