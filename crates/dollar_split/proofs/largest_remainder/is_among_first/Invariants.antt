use Rattle.std.proofs.Common.{◌≡◌, ◌≤◌, ltb, get_or}
use Rattle.peer_selection.specs.Counting.{count_below}
use Rattle.dollar_split.proofs.largest_remainder.is_among_first.Given as goal

abbrev pub invariant-loop-j : goal.invariant-loop-j
invariant-loop-j l = record { counted : l.before ≡ count_below (λ j. ltb (get_or l.priorities l.i 0) (get_or l.priorities j 0)) l.j; few : l.before ≤ l.j }
