use Rattle.std.proofs.Common.{length}
use Rattle.house_model.specs.Text.{lines}
use Rattle.twin_check.proofs.RunLemmas.{HasTaken}
use Rattle.twin_check.proofs.run.take_lines.Given as goal

-- the lines so far were taken, and none of them ends the run
abbrev pub invariant-loop-line : goal.invariant-loop-line
invariant-loop-line l = HasTaken (lines l.text) (lines l.rest) l.house

abbrev pub decreases-loop-line : goal.decreases-loop-line
decreases-loop-line l = length l.rest
