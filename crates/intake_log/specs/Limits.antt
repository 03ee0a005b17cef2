-- The limits of a journal: its lines are a command file.
use Rattle.std.specs.Prelude.{ℕ, ◌+◌, ◌≤◌, ◌<◌, ◌⊎◌, List, length, sum_by}
use Rattle.house_model.specs.declared.limits.TheConstants.{MOST_BYTES, MOST_LINES}

-- how many bytes lines have, with a line feed each
abbrev pub text_size : List (List ℕ) → ℕ
text_size lines = sum_by (λ line. length line + 1) lines

-- one line more passes the limits
abbrev pub IsFull : List (List ℕ) → List ℕ → Type 0
IsFull lines line = (MOST_LINES ≤ length lines) ⊎ (MOST_BYTES < text_size lines + (length line + 1))

-- lines within the limits
pub record AreWithin (lines : List (List ℕ)) : Type 0 where
  pub count : length lines ≤ MOST_LINES
  pub size : text_size lines ≤ MOST_BYTES
