use Rattle.std.proofs.Common.{◌≡◌, ◌+◌, ◌*◌, ◌≤◌, length, map, get_or, All}
use Rattle.house_base.specs.declared.limits.TheConstants.{MOST_SEATS}
use Rattle.peer_selection.specs.Counting.{sum_below, numbers_below}
use Rattle.peer_selection.specs.Profile.{Pairs, Points, profile_on}
use Rattle.house_model.specs.Report.{cluster_row}
use Rattle.seat_quota.specs.Totals.{IsTotals}
use Rattle.call_outcome.proofs.clusters.cluster_rows.Given as goal

abbrev pub invariant-loop-index : goal.invariant-loop-index
invariant-loop-index l = record {
  before : l.before ≡ l.call.seats * sum_below (λ j. get_or l.totals.clusters j 0) l.index;
  filled : All (λ row. (row.filled ≤ row.seats) × (row.seats ≤ MOST_SEATS)) l.rows.items;
  len : length l.rows.items ≡ l.index;
  value : (pairs : Pairs) (points : Points) → IsTotals (profile_on l.plan pairs points) l.totals →
      l.rows.items ≡ map (λ i. cluster_row (profile_on l.plan pairs points) l.draw (i + 1)) (numbers_below l.index);
}
