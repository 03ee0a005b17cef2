use Rattle.std.proofs.Common.{arith}
use Rattle.first_assign.proofs.demand.allow_row.Goals as goal

pub returns-clause-row : goal.returns-clause-row
returns-clause-row c = λ p below. c.loop-at.invariant.row p (omega (arith, below, c.requires.setting.few)) below
