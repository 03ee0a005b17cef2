-- Pairs and points that agree at the places of a setting.
use Rattle.std.specs.Prelude.{◌≡◌, ℕ, ◌<◌}
use Rattle.house_base.specs.Setting.{Setting, size}
use Rattle.peer_selection.specs.Profile.{Pairs, Points}

-- the pairs a and the points x are the pairs b and the points y, of places
pub record AgreeAtPlaces (s : Setting) (a b : Pairs) (x y : Points) : Type 0 where
  pub pairs : (r p : ℕ) → r < size s → p < size s → a r p ≡ b r p
  pub points : (r p : ℕ) → r < size s → p < size s → x r p ≡ y r p
