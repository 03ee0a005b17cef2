use Rattle.std.proofs.Common.{◌≡◌, ◌≤◌, ◌*◌, cond}
use Rattle.house_base.specs.Setting.{need}
use Rattle.house_base.specs.declared.limits.TheConstants.{MOST_OWN, MOST_REVIEWS}
use Rattle.peer_selection.specs.Counting.{sum_below}
use Rattle.cut_gap.specs.Cut.{marked}
use Rattle.report_text.proofs.shortage.needed_in.Given as goal

abbrev pub invariant-loop-reviewer : goal.invariant-loop-reviewer
invariant-loop-reviewer l = record {
  summed : l.total ≡ sum_below (λ r. cond (marked l.cut.reviewers r) (need l.plan r) 0) l.reviewer;
  most : l.total ≤ l.reviewer * (MOST_REVIEWS * MOST_OWN);
}
