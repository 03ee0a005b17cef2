use Rattle.seat_quota.proofs.SixLemmas.{six-assigned}
use Rattle.slip_check.proofs.write_tests.slips_of_six_applicants_are_written.Goals as goal

pub set_up-requires-clause-valid : goal.set_up-requires-clause-valid
set_up-requires-clause-valid g c = six-assigned c.in_ok-plan.plan c.in_ok-pairs.field-0 c.in_ok-plan.ensures.value c.in_ok-pairs.ensures.cells
