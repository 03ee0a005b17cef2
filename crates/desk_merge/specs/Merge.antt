-- The steps of a merge.
use Rattle.std.specs.Prelude.{◌≡◌, ℕ, ◌<◌}
use Rattle.std.specs.FinMap.{len}
use Rattle.std.specs.declared.cmp.Ordering.TheVariants.{Less, Equal}
use Rattle.desk_merge.specs.declared.merge.Turn.{Turn}
use Rattle.desk_merge.specs.declared.merge.Turn.TheVariants as turn
use Rattle.desk_merge.specs.Held.{item_at}
use Rattle.desk_merge.specs.Joined.{Joined, key_cmp}

-- Whose item comes next, where one map stands at one index and another at another: the one with the lesser key, or both
abbrev pub IsNext : Turn → Joined → ℕ → Joined → ℕ → Type 0
IsNext turn.One a i b j = (i < len a) × (j < len b → key_cmp (item_at a i).0 (item_at b j).0 ≡ Less)
IsNext turn.Other a i b j = (j < len b) × (i < len a → key_cmp (item_at b j).0 (item_at a i).0 ≡ Less)
IsNext turn.Both a i b j = (i < len a) × (j < len b) × (key_cmp (item_at a i).0 (item_at b j).0 ≡ Equal)
