-- The parts of a line, from its front.
use Rattle.std.specs.Prelude.{◌≡◌, ℕ, ◌==◌, All, false, ◌∷◌, ◌++◌, codes, decimal}
use Rattle.house_base.specs.Text.{Text}

-- the byte does not stand in the text
abbrev pub HasNo : ℕ → Text → Type 0
HasNo byte text = All (λ b. (b == byte) ≡ false) text

-- the front of a line up to its key, and what stands behind it
abbrev pub key_then : Text → Text → Text → Text
key_then reviewer proposal rest = codes "entry " ++ (reviewer ++ 32 ∷ (proposal ++ 32 ∷ rest))

-- the revision and the points that end a line, and what stands behind the line
abbrev pub review_then : ℕ → ℕ → Text → Text
review_then revision points rest = decimal revision ++ 32 ∷ (decimal points ++ 10 ∷ rest)
