use Rattle.review_desk.specs.Desk.{IsSetUp}
use Rattle.seat_quota.specs.Tally.{IsTally}
use Rattle.seat_quota.proofs.tests.compare.Given as goal

abbrev pub invariant-loop-line : goal.invariant-loop-line
invariant-loop-line g l = record { desk : IsSetUp l.plan l.desk; tally : IsTally l.plan l.tally }
