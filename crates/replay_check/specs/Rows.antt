-- Where two lists of rows differ.
use Rattle.std.specs.Prelude.{◌≡◌, ◌≢◌, ◌+◌, ℕ, List, ◌∷◌, ◌++◌, length}
use Rattle.house_base.specs.Text.{Text}

-- The first row in which two lists of rows differ, by its number from 1: all rows before it are the same.
pub record IsFirstDifference (kept right : List Text) (number : ℕ) (kept_row right_row : Text) : Type 0 where
  pub before : List Text
  pub kept_behind : List Text
  pub right_behind : List Text
  pub in_kept : kept ≡ before ++ kept_row ∷ kept_behind
  pub in_right : right ≡ before ++ right_row ∷ right_behind
  pub number_is : number ≡ length before + 1
  pub differ : kept_row ≢ right_row
