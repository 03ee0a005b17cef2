use Rattle.std.proofs.Common.{ℕ, cond, ◌&&◌, sym, ◌∙◌, arith}
use Rattle.house_base.specs.Setting.{may, size}
use Rattle.peer_selection.specs.Counting.{count_below}
use Rattle.peer_selection.proofs.CountingLemmas.{sum_below-zero}
use Rattle.cut_gap.proofs.CutLemmas.{sum_in-takes, sum_in-skips}
use Rattle.cut_gap.specs.Cut.{marked}
use Rattle.report_text.proofs.shortage.allowed.Goals as goal
use Rattle.report_text.proofs.shortage.allowed.Goals.{then-has_reviewer, else-has_reviewer}

pub loop-reviewer-init : goal.loop-reviewer-init
loop-reviewer-init c =
    let to = λ (r : ℕ). count_below (λ p. marked c.args.cut.now.proposals p && may c.args.plan.now r p) (size c.args.plan.now) in
    record { summed = sym (sum_below-zero (λ r. cond (marked c.args.cut.now.reviewers r) (to r) 0)); most = omega arith }

pub loop-reviewer-preserved : goal.loop-reviewer-preserved
loop-reviewer-preserved c =
    let set = marked c.args.cut.now.reviewers in
    let to = λ (r : ℕ). count_below (λ p. marked c.args.cut.now.proposals p && may c.args.plan.now r p) (size c.args.plan.now) in
    elim c.if-has_reviewer.branch [
      | then-has_reviewer w ↦ record { summed = omega (arith, c.loop-reviewer.invariant.summed, sum_in-takes set to c.loop-reviewer.reviewer (sym c.has_reviewer.ensures ∙ w.if-has_reviewer.true)); most = omega arith }
      | else-has_reviewer w ↦ record { summed = omega (arith, c.loop-reviewer.invariant.summed, sum_in-skips set to c.loop-reviewer.reviewer (sym c.has_reviewer.ensures ∙ w.if-has_reviewer.false)); most = omega arith }
    ]
