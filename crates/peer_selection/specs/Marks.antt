use Rattle.std.specs.Prelude.{ℕ, ◌+◌, ◌*◌, Bool, ◌&&◌, nat_le, nat_lt}
use Rattle.peer_selection.specs.Counting.{count_below}

-- The marks of a draw are its sampling points: they stand at the draw, and every den further on.

-- whether the mark t of a draw lies in the stretch of the line that begins at `start` and has this width
abbrev pub is_marked : ℕ → ℕ → ℕ → ℕ → ℕ → Bool
is_marked start width den draw t = nat_le start (draw + t * den) && nat_lt (draw + t * den) (start + width)

-- How many marks of a draw lie in the stretch. For den at least 1 the mark t stands at t or beyond, so that none
-- but those with t below the end of the stretch can lie in it.
unfoldable pub marks : ℕ → ℕ → ℕ → ℕ → ℕ
marks start width den draw = count_below (is_marked start width den draw) (start + width)
