use Rattle.std.proofs.Common.{◌-◌}
use Rattle.desk_merge.proofs.SortedLemmas.{IsBetween}
use Rattle.desk_merge.proofs.entries.Entries.get.Given as goal

abbrev pub invariant-loop-low : goal.invariant-loop-low
invariant-loop-low l = IsBetween l.self (l.reviewer, l.proposal) l.low l.high

abbrev pub decreases-loop-low : goal.decreases-loop-low
decreases-loop-low l = l.high - l.low
