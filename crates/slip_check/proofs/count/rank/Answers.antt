use Rattle.std.proofs.Common.{◌≡◌, ◌∙◌, sym, ap, arith, length}
use Rattle.peer_selection.specs.Counting.{count_below}
use Rattle.peer_selection.proofs.CountingLemmas.{count_below-add_one, count_below-zero, one_if}
use Rattle.slip_check.specs.Slip.{goes_before, rank_among}
use Rattle.slip_check.proofs.count.rank.Goals as goal
use Rattle.slip_check.proofs.count.rank.Goals.{then-goes_before, else-goes_before}

pub loop-i-init : goal.loop-i-init
loop-i-init c = (sym (count_below-zero (goes_before c.args.scores.now c.args.index)), omega arith)

pub loop-i-preserved : goal.loop-i-preserved
loop-i-preserved c =
    let step = count_below-add_one (goes_before c.args.scores.now c.args.index) c.loop-i.i in
    elim c.if-goes_before.branch [
      | then-goes_before w ↦ (omega (arith, step, ap one_if (sym c.goes_before.ensures ∙ w.if-goes_before.true), w.before-is, c.loop-i.invariant.0), omega (arith, w.before-is, c.loop-i.invariant.1))
      | else-goes_before w ↦ (omega (arith, step, ap one_if (sym c.goes_before.ensures ∙ w.if-goes_before.false), w.before-is, c.loop-i.invariant.0), omega (arith, w.before-is, c.loop-i.invariant.1))
    ]

pub returns-clause-value : goal.returns-clause-value
unfolding rank_among
returns-clause-value c =
    let all : c.loop-i.i ≡ length c.args.scores.now = omega (arith, c.loop-i.auto.i-end, c.loop-i-test.false) in
    omega (arith, c.loop-i.invariant.0, ap (count_below (goes_before c.args.scores.now c.args.index)) all)
