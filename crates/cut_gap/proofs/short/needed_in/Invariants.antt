use Rattle.std.proofs.Common.{◌≡◌, ◌≤◌, ◌*◌, cond, slice_index}
use Rattle.peer_selection.specs.Counting.{sum_below}
use Rattle.cut_gap.specs.Cut.{marked}
use Rattle.cut_gap.proofs.short.needed_in.Given as goal

abbrev pub invariant-loop-reviewer : goal.invariant-loop-reviewer
invariant-loop-reviewer l = record {
  summed : l.total ≡ sum_below (λ r. cond (marked l.cut.reviewers r) (slice_index l.need r) 0) l.reviewer;
  most : l.total ≤ l.reviewer * 4294967295;
}
