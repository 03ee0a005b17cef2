-- What one call takes from a source.
use Rattle.std.specs.Prelude.{◌≡◌, ℕ, ◌≤◌, List, length, take, drop, Option, Some}

-- the first bytes of those that were left came to the front of the buffer, and the others are left
pub record Takes (count : ℕ) (before : List ℕ) (after : Option (List ℕ)) (buffer : List ℕ) : Type 0 where
  pub within : count ≤ length before
  pub bytes : take count buffer ≡ take count before
  pub rest : after ≡ Some (drop count before)
