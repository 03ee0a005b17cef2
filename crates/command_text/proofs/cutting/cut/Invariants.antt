use Rattle.std.proofs.Common.{◌≡◌, ◌++◌, length}
use Rattle.house_model.specs.Text.{lines}
use Rattle.command_text.proofs.cutting.cut.Given as goal

abbrev pub invariant-loop-line : goal.invariant-loop-line
invariant-loop-line l = l.lines ++ lines l.rest ≡ lines l.bytes

abbrev pub decreases-loop-line : goal.decreases-loop-line
decreases-loop-line l = length l.rest
