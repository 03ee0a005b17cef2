use Rattle.std.specs.Prelude.{ℕ, ◌+◌, ◌*◌, ◌/◌, ◌%◌, Bool, false, List, map, slice_index_or}
use Rattle.std.specs.List.{range_with_len}
use Rattle.house_base.specs.Rows.{has}

-- a square of truth values, row by row
pub record Square : Type 0 where
  pub side : ℕ
  pub cells : List Bool

-- what stands in a row and a column
unfoldable pub cell : Square → ℕ → ℕ → Bool
cell square row column = slice_index_or square.cells (row * square.side + column) false

-- the square of this side that rows of words make: in each row a bit for each column
abbrev pub square_of_words : ℕ → List ℕ → Square
square_of_words side words = record {
  side = side;
  cells = map (λ i. has words (i / side) (i % side)) (range_with_len 0 (side * side));
}
