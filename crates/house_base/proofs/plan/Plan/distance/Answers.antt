use Rattle.std.proofs.Common.{refl}
use Rattle.house_base.specs.Setting.{distance}
use Rattle.house_base.proofs.plan.Plan.distance.Goals as goal

pub returns : goal.returns
unfolding distance
returns c = rw c.count-count.ensures.value refl
