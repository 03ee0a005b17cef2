-- How a board is held: beside its parts with the rank of each applicant less those ahead of it that have withdrawn.
use Rattle.std.specs.Prelude.{◌≡◌, ℕ, ◌<◌, List, length, slice_index}
use Rattle.reserve_list.specs.Board.{BoardParts, IsBoard, count_of, reserve_rank_on}

-- the parts are a board, and these are its reserve ranks
pub record IsHeld (b : BoardParts) (ranks : List ℕ) : Type 0 where
  pub board : IsBoard b
  pub each : length ranks ≡ count_of b.outcome
  pub ranks_are : (i : ℕ) → i < count_of b.outcome → slice_index ranks i ≡ reserve_rank_on b i
