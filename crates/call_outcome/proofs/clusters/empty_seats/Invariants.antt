use Rattle.std.proofs.Common.{◌≡◌, ◌-◌, ◌*◌, ◌≤◌, take}
use Rattle.std.specs.List.{sum_by}
use Rattle.house_base.specs.declared.limits.TheConstants.{MOST_SEATS}
use Rattle.call_outcome.proofs.clusters.empty_seats.Given as goal

abbrev pub invariant-loop-row : goal.invariant-loop-row
invariant-loop-row l = record { left : l.empty ≡ sum_by (λ row. row.seats - row.filled) (take l.row-index l.clusters); few : l.empty ≤ l.row-index * MOST_SEATS }
