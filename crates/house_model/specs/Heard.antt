use Rattle.std.specs.Prelude.{ℕ, Bool, List, length, take, nat_lt, ◌||◌, ◌==◌, if◌then◌else◌, [], ◌∷◌, map}
use Rattle.std.specs.List.{slice_split}
use Rattle.house_base.specs.Text.{Text}
use Rattle.house_model.specs.declared.limits.TheConstants.{MOST_BYTES, MOST_LINES}
use Rattle.house_model.specs.Text.{Lines, lines, without_return}

-- an input over the limits on its bytes or on its lines
unfoldable pub is_over : List ℕ → Bool
is_over input = nat_lt MOST_BYTES (length input) || nat_lt MOST_LINES (length (lines input))

-- the parts but for the last, which no line feed ends
abbrev pub without_last : List Text → List Text
without_last [] = []
without_last (x ∷ []) = []
without_last (x ∷ y ∷ more) = x ∷ without_last (y ∷ more)

-- the lines that end with their line feed
unfoldable pub whole_lines : List ℕ → Lines
whole_lines text = map without_return (without_last (slice_split (λ b. b == 10) text))

-- what is heard of an input: its lines, or of one over the limits the lines within them that end
unfoldable pub heard : List ℕ → Lines
heard input = if is_over input then take MOST_LINES (whole_lines (take MOST_BYTES input)) else lines input
