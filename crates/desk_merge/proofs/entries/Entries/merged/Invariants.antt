use Rattle.std.proofs.Common.{◌-◌, ◌+◌}
use Rattle.std.specs.FinMap.{len}
use Rattle.desk_merge.proofs.MergeLemmas.{IsMerged}
use Rattle.desk_merge.proofs.entries.Entries.merged.Given as goal

abbrev pub invariant-loop-i : goal.invariant-loop-i
invariant-loop-i l = IsMerged l.one l.other l.i l.j l.merged

abbrev pub decreases-loop-i : goal.decreases-loop-i
decreases-loop-i l = (len l.one - l.i) + (len l.other - l.j)
