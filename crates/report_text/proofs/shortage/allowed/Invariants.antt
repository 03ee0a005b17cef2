use Rattle.std.proofs.Common.{◌≡◌, ◌≤◌, ◌*◌, ◌&&◌, cond}
use Rattle.house_base.specs.Setting.{may, size}
use Rattle.house_base.specs.declared.limits.TheConstants.{MOST_APPLICANTS}
use Rattle.peer_selection.specs.Counting.{count_below, sum_below}
use Rattle.cut_gap.specs.Cut.{marked}
use Rattle.report_text.proofs.shortage.allowed.Given as goal

abbrev pub invariant-loop-reviewer : goal.invariant-loop-reviewer
invariant-loop-reviewer l = record {
  summed : l.total ≡ sum_below (λ r. cond (marked l.cut.reviewers r) (count_below (λ p. marked l.cut.proposals p && may l.plan r p) (size l.plan)) 0) l.reviewer;
  most : l.total ≤ l.reviewer * MOST_APPLICANTS;
}
