use Rattle.std.proofs.Common.{length}
use Rattle.desk_merge.proofs.ReadLemmas.{IsReadTo}
use Rattle.desk_merge.proofs.entries.Entries.read.Given as goal

abbrev pub invariant-loop-rest : goal.invariant-loop-rest
invariant-loop-rest l = IsReadTo l.bytes l.rest l.entries

abbrev pub decreases-loop-rest : goal.decreases-loop-rest
decreases-loop-rest l = length l.rest
