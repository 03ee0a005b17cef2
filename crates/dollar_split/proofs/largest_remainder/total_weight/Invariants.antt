use Rattle.std.proofs.Common.{◌≡◌, ◌*◌, ◌≤◌, get_or}
use Rattle.house_base.specs.declared.limits.TheConstants.{MOST_POINTS}
use Rattle.peer_selection.specs.Counting.{sum_below}
use Rattle.peer_selection.specs.Split.{weights}
use Rattle.dollar_split.proofs.largest_remainder.total_weight.Given as goal

abbrev pub invariant-loop-i : goal.invariant-loop-i
invariant-loop-i l = record { together : l.total ≡ sum_below (λ i. get_or (weights l.points) i 0) l.i; few : l.total ≤ l.i * MOST_POINTS }
