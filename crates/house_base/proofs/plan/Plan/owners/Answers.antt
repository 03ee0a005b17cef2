use Rattle.std.proofs.Common.{arith}
use Rattle.house_base.proofs.Settings.{length-StandInTurn}
use Rattle.house_base.proofs.plan.Plan.owners.Goals as goal

pub overflow_cast-result : goal.overflow_cast-result
overflow_cast-result c =
    omega (arith, length-StandInTurn 0 c.self.inside.owners.items _ c.self.invariant.setting.own c.self.invariant.setting.in_turn, c.self.invariant.setting.few)

pub returns-clause-most : goal.returns-clause-most
returns-clause-most c =
    rw (← c.self.view_is) (omega (arith, length-StandInTurn 0 c.self.inside.owners.items _ c.self.invariant.setting.own c.self.invariant.setting.in_turn))
