use Rattle.std.proofs.Common.{sym, ◌∙◌}
use Rattle.seat_quota.proofs.SixLemmas.{six-assigned}
use Rattle.seat_quota.proofs.tests.tally_follows_each_review.Goals as goal

pub set_up-requires-clause-side : goal.set_up-requires-clause-side
set_up-requires-clause-side g c = c.in_ok-first.ensures.side ∙ sym c.in_ok-plan.ensures.size

pub set_up-requires-clause-valid : goal.set_up-requires-clause-valid
set_up-requires-clause-valid g c = six-assigned c.in_ok-plan.plan c.in_ok-first.first c.in_ok-plan.ensures.value c.in_ok-first.ensures.cells

pub set_up-requires-2-clause-valid : goal.set_up-requires-2-clause-valid
set_up-requires-2-clause-valid g c = six-assigned c.in_ok-plan.plan c.in_ok-second.second c.in_ok-plan.ensures.value c.in_ok-second.ensures.cells
