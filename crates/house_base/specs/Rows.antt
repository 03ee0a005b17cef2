use Rattle.std.specs.Prelude.{ℕ, ◌+◌, ◌*◌, ◌/◌, ◌%◌, Bool, List, ◌==◌, slice_index}
use Rattle.std.specs.Int.{bit_at}
use Rattle.house_base.specs.declared.rows.TheConstants.{WORD_BITS, ROW_WORDS}

-- whether rows of words have a bit at a row and a column
unfoldable pub has : List ℕ → ℕ → ℕ → Bool
has words row column = bit_at (slice_index words (row * ROW_WORDS + column / WORD_BITS)) (column % WORD_BITS) == 1
