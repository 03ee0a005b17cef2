use Rattle.std.proofs.Common.{arith}
use Rattle.first_assign.proofs.NeedLemmas.{sum-needs}
use Rattle.first_assign.proofs.demand.needs.Goals as goal

pub returns-clause-total : goal.returns-clause-total
returns-clause-total c =
    sum-needs c.args.plan.now c.loop-place.needs.items c.count.ensures.setting (omega (arith, c.loop-place.needs.ok, c.loop-place.invariant.side))
    (λ i l. c.loop-place.invariant.needs i (omega (arith, l, c.loop-place-test.false, c.count-place-end.ensures.value)))
