use Rattle.std.proofs.Common.{◌≡◌, true, arith}
use Rattle.house_base.proofs.Settings.{absent_more, not_viewed}
use Rattle.house_base.proofs.plan.Plan.place_of.Goals as goal

pub loop-place-preserved : goal.loop-place-preserved
loop-place-preserved c =
    absent_more (λ person. person.name) _ _ _ _ c.person.ensures (λ named. let same : c.eq.result ≡ true = c.eq.ensures.same.1 named in cc) c.loop-place.invariant

pub returns-clause-none : goal.returns-clause-none
returns-clause-none c = not_viewed (λ person. person.name) _ _ _ (omega arith) c.loop-place.invariant
