use Rattle.std.proofs.Common.{length}
use Rattle.slip_check.proofs.BallotLemmas.{IsReadTo}
use Rattle.slip_check.proofs.ballot.read_cells.Given as goal

abbrev pub invariant-loop-left : goal.invariant-loop-left
invariant-loop-left l = IsReadTo l.fn.rest l.left l.cells.proposals.items l.cells.points.items

abbrev pub decreases-loop-left : goal.decreases-loop-left
decreases-loop-left l = length l.left
