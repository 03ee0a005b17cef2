use Rattle.std.proofs.Common.{◌≡◌, ℕ, ◌<◌, length, get_or}
use Rattle.house_base.specs.Setting.{size}
use Rattle.peer_selection.specs.Counting.{sum_below}
use Rattle.peer_selection.specs.Profile.{cents}
use Rattle.review_desk.specs.Desk.{desk_profile}
use Rattle.seat_quota.proofs.totals.scores.Given as goal

abbrev pub invariant-loop-reviewer : goal.invariant-loop-reviewer
invariant-loop-reviewer l = record {
  len : length l.scores.items ≡ size l.plan;
  value : (p : ℕ) → p < size l.plan → get_or l.scores.items p 0 ≡ sum_below (λ r. cents (desk_profile l.plan l.desk) r p) l.reviewer;
}
