use Rattle.std.proofs.Common.{◌≡◌, ◌*◌, ◌≤◌, length, map, take, All}
use Rattle.house_base.specs.declared.limits.TheConstants.{MOST_OWN, MOST_POINTS, MOST_REVIEWS}
use Rattle.review_desk.specs.Desk.{points_at}
use Rattle.seat_quota.proofs.row.row_cents.Given as goal

-- the points of the proposals so far
abbrev pub invariant-loop-i : goal.invariant-loop-i
invariant-loop-i l = record {
  len : length l.points ≡ MOST_REVIEWS * MOST_OWN;
  value : take l.i l.points ≡ map (points_at l.desk l.reviewer) (take l.i l.row);
  most : All (λ x. x ≤ MOST_POINTS) (take l.i l.points);
}
