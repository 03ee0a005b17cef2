use Rattle.std.proofs.Common.{◌+◌, ◌<◌, length, get_or, ap, ◌∙◌, arith}
use Rattle.peer_selection.proofs.CountingLemmas.{one_if, one_if-le}
use Rattle.dollar_split.specs.Weighed.{extra_at}
use Rattle.dollar_split.proofs.ShareLemmas.{truth-counts, set_more, set_later}
use Rattle.dollar_split.proofs.largest_remainder.give_to_first.Goals as goal

pub overflow_add-cents : goal.overflow_add-cents
overflow_add-cents c =
    omega (
      arith,
      c.loop-i.invariant.others c.loop-i.i (omega arith) c.loop-i-test.true,
      c.requires.room c.loop-i.i c.loop-i-test.true,
      c.from.ensures,
      truth-counts c.is_among_first.result,
      one_if-le c.is_among_first.result,
    )

pub loop-i-preserved : goal.loop-i-preserved
loop-i-preserved c =
    let priorities = c.args.priorities.now in
    let old = c.args.cents.now in
    let i = c.loop-i.i in
    let base = c.loop-i.invariant.others i (omega arith) c.loop-i-test.true in
    let inside : i < length c.loop-i.cents = omega arith in
    let extra = truth-counts c.is_among_first.result ∙ ap one_if c.is_among_first.ensures in
    record {
      given = set_more c.loop-i.cents i (get_or c.loop-i.cents i 0 + c.from.result) (λ k. get_or old k 0 + extra_at priorities c.args.left k) inside c.loop-i.invariant.given (omega (arith, base, extra, c.from.ensures));
      others = λ k l b. set_later c.loop-i.cents i (get_or c.loop-i.cents i 0 + c.from.result) k l ∙ c.loop-i.invariant.others k (omega arith) b;
    }
