use Rattle.std.specs.Prelude.{ℕ, ◌+◌, ◌*◌, ◌/◌, ◌%◌, Bool, List, ◌==◌, ◌&&◌, nat_lt, slice_index}
use Rattle.std.specs.Int.{bit_at}
use Rattle.register_book.specs.declared.rows.TheConstants.{WORD_BITS, ROW_BITS}

-- whether a bit of a list of words is set; behind the last word none is
unfoldable pub is_set : List ℕ → ℕ → Bool
is_set words k = bit_at (slice_index words (k / WORD_BITS)) (k % WORD_BITS) == 1

-- whether rows of bits have one at a row and a column
unfoldable pub holds : List ℕ → ℕ → ℕ → Bool
holds words row column = nat_lt column ROW_BITS && is_set words (row * ROW_BITS + column)
