use Rattle.std.proofs.Common.{◌∙◌, arith}
use Rattle.house_base.specs.Grid.{cell}
use Rattle.seat_quota.proofs.SixLemmas.{pairs_more}
use Rattle.slip_check.proofs.write_tests.pairs.Goals as goal

pub loop-reviewer-preserved : goal.loop-reviewer-preserved
loop-reviewer-preserved c =
    let side = c.loop-reviewer.invariant.side in
    let next = c.set.ensures.side in
    record {
      side = c.set-in-loop-reviewer.ensures.side ∙ (next ∙ side);
      cells = λ r p rl pl. pairs_more r p c.loop-reviewer.reviewer (cell c.loop-reviewer.pairs r p) (cell c.set.new.self r p) (cell c.set-in-loop-reviewer.new.self r p)
          (c.loop-reviewer.invariant.cells r p rl pl) (c.set.ensures.cells r p (omega arith) (omega arith)) (c.set-in-loop-reviewer.ensures.cells r p (omega arith) (omega arith));
    }
