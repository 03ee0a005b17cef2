use Rattle.std.proofs.Common.{◌≡◌}
use Rattle.first_assign.proofs.tests.barring.Given as goal

abbrev pub invariant-loop-row : goal.invariant-loop-row
invariant-loop-row l = l.grid.side ≡ 6

abbrev pub invariant-loop-column : goal.invariant-loop-column
invariant-loop-column l = l.grid.side ≡ 6
