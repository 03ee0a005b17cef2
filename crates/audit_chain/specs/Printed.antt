-- The row of a line, as the pieces of its text.
use Rattle.std.specs.Prelude.{ℕ, ◌++◌, codes, decimal}
use Rattle.json.specs.Print.{escape}
use Rattle.house_base.specs.Text.{Text}

-- the front of a row, up to the digits of the digest
abbrev pub row_head : Text → Text → Text
row_head word digest = codes "{\"aside\":\"" ++ (word ++ (codes "\",\"digest\":\"" ++ digest))

-- the rest of it, where the line goes as text
abbrev pub text_end : ℕ → Text → Text
text_end place line = codes "\",\"line\":" ++ (decimal place ++ (codes ",\"text\":\"" ++ (escape line ++ codes "\"}\n")))

-- and where it goes as digits
abbrev pub digits_end : Text → ℕ → Text
digits_end digits place = codes "\",\"hex\":\"" ++ (digits ++ (codes "\",\"line\":" ++ (decimal place ++ codes "}\n")))
