use Rattle.std.proofs.Common.{◌≡◌, ℕ, ◌<◌, [], length, get_or}
use Rattle.seat_quota.specs.Tally.{IsGiven}
use Rattle.seat_quota.proofs.rows.cents.Given as goal

-- the cents of the places so far
abbrev pub invariant-loop-reviewer : goal.invariant-loop-reviewer
invariant-loop-reviewer l = record {
  each : length l.cents.items ≡ l.reviewer;
  given : (r : ℕ) → r < l.reviewer → IsGiven l.desk r (get_or l.cents.items r []);
}
