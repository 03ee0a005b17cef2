use Rattle.std.proofs.Common.{length}
use Rattle.reserve_list.proofs.FileLemmas.{IsTaken}
use Rattle.reserve_list.proofs.file.take_lines.Given as goal

abbrev pub invariant-loop-line : goal.invariant-loop-line
invariant-loop-line l = IsTaken l.fn.board l.bytes l.rest l.fn.out.items l.out.items l.number l.board

abbrev pub decreases-loop-line : goal.decreases-loop-line
decreases-loop-line l = length l.rest
