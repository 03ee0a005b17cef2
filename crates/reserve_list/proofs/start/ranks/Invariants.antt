use Rattle.std.proofs.Common.{◌≡◌, map, take}
use Rattle.reserve_list.proofs.start.ranks.Given as goal

abbrev pub invariant-loop-row : goal.invariant-loop-row
invariant-loop-row l = l.ranks.items ≡ map (λ row. row.rank) (take l.row-index l.row-items)
