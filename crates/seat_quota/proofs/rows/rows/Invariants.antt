use Rattle.std.proofs.Common.{◌≡◌, map}
use Rattle.house_base.specs.Grid.{cell}
use Rattle.peer_selection.specs.Counting.{numbers_below}
use Rattle.seat_quota.specs.Totals.{row_among}
use Rattle.seat_quota.proofs.rows.rows.Given as goal

-- the rows of the persons so far
abbrev pub invariant-loop-reviewer : goal.invariant-loop-reviewer
invariant-loop-reviewer l = map (λ row. row.items) l.rows.items ≡ map (row_among l.pairs.side (cell l.pairs)) (numbers_below l.reviewer)
