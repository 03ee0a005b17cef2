use Rattle.std.proofs.Common.{◌≡◌, false, replicate}
use Rattle.reserve_list.proofs.start.nobody_gone.Given as goal

abbrev pub invariant-loop-row : goal.invariant-loop-row
invariant-loop-row l = l.gone.items ≡ replicate l._row-index false
