use Rattle.std.proofs.Common.{◌≡◌}
use Rattle.assign_flow.proofs.tests.all_but.Given as goal

abbrev pub invariant-loop-row : goal.invariant-loop-row
invariant-loop-row l = l.may.side ≡ l.side

abbrev pub invariant-loop-column : goal.invariant-loop-column
invariant-loop-column l = l.may.side ≡ l.side
