use Rattle.std.proofs.Common.{◌≡◌, ◌+◌, ◌-◌, ◌^◌, ◌<◌, [], length, take}
use Rattle.input_run.specs.Kept.{HasTaken, keeps}
use Rattle.house_model.specs.declared.limits.TheConstants.{MOST_LINES}
use Rattle.input_run.specs.Hearing.{GoOn}
use Rattle.input_run.proofs.opening.take_opening.Given as goal

-- the lines so far were taken, none of them ends the run, and lines are kept as before
abbrev pub invariant-loop-index : goal.invariant-loop-index
invariant-loop-index l = record {
  taken : HasTaken l.goal [] l.fn.run → length l.lines + MOST_LINES < 2 ^ 64 - 1 →
      HasTaken l.goal (take l.index l.lines) l.run × GoOn l.goal (take l.index l.lines);
  keeps : keeps l.run ≡ keeps l.fn.run;
}
