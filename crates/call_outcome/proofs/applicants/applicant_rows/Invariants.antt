use Rattle.std.proofs.Common.{◌≡◌, ℕ, map}
use Rattle.peer_selection.specs.Counting.{numbers_below}
use Rattle.peer_selection.specs.Profile.{Pairs, Points, profile_on}
use Rattle.peer_selection.specs.Laws.{IsAssigned}
use Rattle.house_model.specs.Report.{place_of_number}
use Rattle.house_model.specs.Report.{applicant_row, cluster_rows_of}
use Rattle.seat_quota.specs.Totals.{IsTotals}
use Rattle.call_outcome.proofs.applicants.applicant_rows.Given as goal

abbrev pub invariant-loop-number : goal.invariant-loop-number
invariant-loop-number l = (pairs : Pairs) (points : Points) (v : ℕ) → IsAssigned (profile_on l.plan pairs points) → IsTotals (profile_on l.plan pairs points) l.totals →
    l.clusters ≡ cluster_rows_of (profile_on l.plan pairs points) v →
    l.rows.items ≡ map (λ number. applicant_row (profile_on l.plan pairs points) v (place_of_number l.plan number)) (numbers_below l.number)
