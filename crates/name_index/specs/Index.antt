use Rattle.std.specs.Prelude.{◌≡◌, ◌≢◌, ◌≤◌, ℕ, AllPairs, List, length, position}
use Rattle.std.specs.BTreeMap.{BTreeMap, get}
use Rattle.std.specs.Cmp.Lexicographic.{slice_cmp}
use Rattle.std.specs.List.{position_or_len}
use Rattle.std.specs.Ordering.{nat_cmp}
use Rattle.std.specs.Str.{bytes_eq}
use Rattle.house_base.specs.declared.limits.TheConstants.{MOST_APPLICANTS}
use Rattle.house_base.specs.Text.{Text}

-- the number of a text among others: its index; how many they are where it is not among them
unfoldable pub number_in : List Text → Text → ℕ
number_in texts t = position_or_len (bytes_eq t) texts

-- different names, and a map from each to its number
pub record IsIndex (names : List Text) (numbers : BTreeMap Text ℕ) : Type 0 where
  pub few : length names ≤ MOST_APPLICANTS
  pub differ : AllPairs (λ a b. a ≢ b) names
  pub found : (name : Text) → get (slice_cmp nat_cmp) numbers name ≡ position (bytes_eq name) names
