use Rattle.std.specs.Prelude.{◌≡◌, ℕ, ◌<◌, ◌≤◌, ◌==◌, ◌&&◌, ◌||◌, not, Bool, false, List}
use Rattle.house_base.specs.Grid.{cell}
use Rattle.house_base.specs.Rows.{has}
use Rattle.house_base.specs.Setting.{Setting, cluster_at}
use Rattle.house_base.specs.declared.rows.TheConstants.{ROW_BITS}

-- rows of bits have the places before a place: each in the row of its cluster, and all in the row 0
pub record HasMembers (s : Setting) (n : ℕ) (rows : List ℕ) : Type 0 where
  pub before : (k p : ℕ) → p < n → has rows k p ≡ (k == 0 || k == cluster_at s p)
  pub behind : (k p : ℕ) → n ≤ p → p < ROW_BITS → has rows k p ≡ false

-- two places of different clusters that are not barred
abbrev pub is_apart : Setting → ℕ → ℕ → Bool
is_apart s r p = not (cluster_at s r == cluster_at s p) && not (cell s.barred r p)
