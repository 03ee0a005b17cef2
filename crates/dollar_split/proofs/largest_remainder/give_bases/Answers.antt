use Rattle.std.proofs.Common.{◌≡◌, ◌+◌, ◌*◌, ◌/◌, length, ap, ◌∙◌, arith}
use Rattle.house_base.specs.declared.limits.TheConstants.{DOLLAR}
use Rattle.peer_selection.specs.Counting.{sum_below}
use Rattle.peer_selection.specs.Split.{base_at, remainder_at}
use Rattle.peer_selection.proofs.CountingLemmas.{sum_below-zero, sum_below-add_one, sum_below-longer}
use Rattle.peer_selection.proofs.SplitLemmas.{left_over-less, sum-weights}
use Rattle.dollar_split.proofs.ShareLemmas.{base-read, remainder-read, set_more}
use Rattle.dollar_split.specs.Weighed.{priority_of}
use Rattle.dollar_split.proofs.largest_remainder.give_bases.Goals as goal

pub loop-i-init : goal.loop-i-init
loop-i-init c = record { whole = omega (arith, sum_below-zero (base_at c.args.points.now)); given = λ k l. absurd (omega arith); noted = λ k l. absurd (omega arith) }

pub nonzero_div-share : goal.nonzero_div-share
nonzero_div-share c = omega (arith, c.requires.weighed.together, sum-weights c.args.points.now (omega arith))

pub nonzero_rem-dollars : goal.nonzero_rem-dollars
nonzero_rem-dollars c = omega (arith, c.requires.weighed.together, sum-weights c.args.points.now (omega arith))

pub overflow_sub-left : goal.overflow_sub-left
overflow_sub-left c =
    let points = c.args.points.now in
    omega (
      arith,
      base-read points c.loop-i.i c.weight_at-dollars.result c.args.total c.weight_at-dollars.ensures.value c.requires.weighed.together,
      c.loop-i.invariant.whole,
      sum_below-add_one (base_at points) c.loop-i.i,
      sum_below-longer (base_at points) (c.loop-i.i + 1) (length points) (omega arith),
      (left_over-less points c.requires.weighed.split.some).0,
    )

pub loop-i-preserved : goal.loop-i-preserved
loop-i-preserved c =
    let points = c.args.points.now in
    let base = base-read points c.loop-i.i c.weight_at-dollars.result c.args.total c.weight_at-dollars.ensures.value c.requires.weighed.together in
    let remainder = remainder-read points c.loop-i.i c.weight_at-dollars.result c.args.total c.weight_at-dollars.ensures.value c.requires.weighed.together in
    record {
      whole = omega (
        arith,
        base,
        c.loop-i.invariant.whole,
        sum_below-add_one (base_at points) c.loop-i.i,
        sum_below-longer (base_at points) (c.loop-i.i + 1) (length points) (omega arith),
        (left_over-less points c.requires.weighed.split.some).0,
      );
      given = set_more c.loop-i.cents c.loop-i.i (DOLLAR * c.weight_at-dollars.result / c.args.total) (base_at points) (omega arith) c.loop-i.invariant.given base;
      noted = set_more c.loop-i.priorities c.loop-i.i c.priority.result (λ k. priority_of (remainder_at points k) k) (omega arith) c.loop-i.invariant.noted (c.priority.ensures ∙ ap (λ x. priority_of x c.loop-i.i) remainder);
    }

pub returns-clause-left : goal.returns-clause-left
returns-clause-left c =
    let points = c.args.points.now in
    let whole : c.loop-i.i ≡ length points = omega arith in
    omega (arith, c.loop-i.invariant.whole, ap (sum_below (base_at points)) whole, (left_over-less points c.requires.weighed.split.some).0)
