use Rattle.std.proofs.Common.{◌≡◌, ℕ, length, get_or, sym, ap, ◌∙◌, arith}
use Rattle.peer_selection.specs.Counting.{sum_below}
use Rattle.peer_selection.specs.Split.{weights}
use Rattle.peer_selection.proofs.CountingLemmas.{sum_below-zero, sum_below-add_one}
use Rattle.peer_selection.proofs.SplitLemmas.{length-weights, sum_below-items}
use Rattle.dollar_split.proofs.largest_remainder.total_weight.Goals as goal

pub loop-i-init : goal.loop-i-init
loop-i-init c = record { together = sym (sum_below-zero (λ i. get_or (weights c.args.points.now) i 0)); few = omega arith }

pub loop-i-preserved : goal.loop-i-preserved
loop-i-preserved c =
    let w = λ (i : ℕ). get_or (weights c.args.points.now) i 0 in
    record {
      together = omega (arith, sum_below-add_one w c.loop-i.i, c.loop-i.invariant.together, c.weight_at-total.ensures.value);
      few = omega (arith, c.loop-i.invariant.few, c.weight_at-total.ensures.most);
    }

pub returns-clause-value : goal.returns-clause-value
returns-clause-value c =
    let ws = weights c.args.points.now in
    let whole : c.loop-i.i ≡ length ws = omega (arith, length-weights c.args.points.now) in
    c.loop-i.invariant.together ∙ (ap (sum_below (λ i. get_or ws i 0)) whole ∙ sum_below-items ws)
