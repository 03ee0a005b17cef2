use Rattle.std.proofs.Common.{cond, sym, ◌∙◌, slice_index, arith}
use Rattle.peer_selection.proofs.CountingLemmas.{sum_below-zero}
use Rattle.cut_gap.proofs.CutLemmas.{sum_in-takes, sum_in-skips}
use Rattle.cut_gap.specs.Cut.{marked}
use Rattle.cut_gap.proofs.short.needed_in.Goals as goal
use Rattle.cut_gap.proofs.short.needed_in.Goals.{then-has_reviewer, else-has_reviewer}

pub loop-reviewer-init : goal.loop-reviewer-init
loop-reviewer-init c =
    record { summed = sym (sum_below-zero (λ r. cond (marked c.args.cut.now.reviewers r) (slice_index c.args.need.now r) 0)); most = omega arith }

pub loop-reviewer-preserved : goal.loop-reviewer-preserved
loop-reviewer-preserved c =
    let set = marked c.args.cut.now.reviewers in
    elim c.if-has_reviewer.branch [
      | then-has_reviewer w ↦ record { summed = omega (arith, c.loop-reviewer.invariant.summed, sum_in-takes set (slice_index c.args.need.now) c.loop-reviewer.reviewer (sym c.has_reviewer.ensures ∙ w.if-has_reviewer.true)); most = omega arith }
      | else-has_reviewer w ↦ record { summed = omega (arith, c.loop-reviewer.invariant.summed, sum_in-skips set (slice_index c.args.need.now) c.loop-reviewer.reviewer (sym c.has_reviewer.ensures ∙ w.if-has_reviewer.false)); most = omega arith }
    ]
