use Rattle.std.proofs.Common.{◌≡◌, ◌≤◌, leb, get_or}
use Rattle.peer_selection.specs.Counting.{count_below}
use Rattle.dollar_split.proofs.largest_remainder.count_reaching.Given as goal

abbrev pub invariant-loop-j : goal.invariant-loop-j
invariant-loop-j l = record { counted : l.count ≡ count_below (λ j. leb l.bound (get_or l.priorities j 0)) l.j; few : l.count ≤ l.j }
