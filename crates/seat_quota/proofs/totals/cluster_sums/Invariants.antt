use Rattle.std.proofs.Common.{◌≡◌, ℕ, ◌+◌, ◌<◌, length, get_or}
use Rattle.seat_quota.specs.Totals.{cluster_sum}
use Rattle.seat_quota.proofs.totals.cluster_sums.Given as goal

abbrev pub invariant-loop-place : goal.invariant-loop-place
invariant-loop-place l = record {
  len : length l.sums.items ≡ l.plan.clusters;
  sums : (j : ℕ) → j < l.plan.clusters → get_or l.sums.items j 0 ≡ cluster_sum l.plan (λ p. get_or l.scores p 0) (j + 1) l.place;
}
