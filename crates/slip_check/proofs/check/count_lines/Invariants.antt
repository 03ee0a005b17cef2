use Rattle.std.proofs.Common.{◌+◌, ◌≤◌, length}
use Rattle.slip_check.specs.Counted.{IsCounted, IsReached, IsStart}
use Rattle.slip_check.specs.Form.{Rows}
use Rattle.slip_check.proofs.check.count_lines.Given as goal

-- what was reached from any two first lines
abbrev pub invariant-loop-line : goal.invariant-loop-line
invariant-loop-line l = IsCounted l.count × ((start : Rows) → IsStart start → IsReached start l.fn.text l.rest l.number l.count)
    × (l.number + length l.rest ≤ 2 + length l.fn.text)

abbrev pub decreases-loop-line : goal.decreases-loop-line
decreases-loop-line l = length l.rest
