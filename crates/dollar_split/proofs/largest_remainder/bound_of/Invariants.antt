use Rattle.std.proofs.Common.{◌≤◌, ◌-◌}
use Rattle.dollar_split.proofs.largest_remainder.bound_of.Given as goal

abbrev pub decreases-loop-high : goal.decreases-loop-high
decreases-loop-high l = l.high - l.low

abbrev pub invariant-loop-high : goal.invariant-loop-high
invariant-loop-high l = record {
  between : l.low ≤ l.high;
}
