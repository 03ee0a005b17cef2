use Rattle.std.proofs.Common.{arith, ap}
use Rattle.std.proofs.lemmas.Bool.Decides.{nat_tests}
use Rattle.house_base.proofs.Settings.{may-read}
use Rattle.house_base.proofs.plan.Plan.may.Goals as goal

pub returns-then-not-same_cluster : goal.returns-then-not-same_cluster
returns-then-not-same_cluster c =
    let barred = ap (λ s. s.barred) c.self.view_is in
    rw (may-read c.args.self.now c.args.reviewer c.args.proposal _ _ c.person.ensures c.person-2.ensures, ← barred) (grind (arith, nat_tests))

pub returns-else-not-same_cluster : goal.returns-else-not-same_cluster
returns-else-not-same_cluster c = rw (may-read c.args.self.now c.args.reviewer c.args.proposal _ _ c.person.ensures c.person-2.ensures) (grind (arith, nat_tests))
