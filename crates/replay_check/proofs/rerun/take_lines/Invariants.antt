use Rattle.replay_check.proofs.RerunLemmas.{HasTaken}
use Rattle.replay_check.proofs.rerun.take_lines.Given as goal

-- the lines so far were taken, and none of them ends the run
abbrev pub invariant-loop-index : goal.invariant-loop-index
invariant-loop-index l = HasTaken l.lines l.index l.house l.marks.items
