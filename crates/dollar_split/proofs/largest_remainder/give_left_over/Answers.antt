use Rattle.std.proofs.Common.{◌+◌, cond, get_or, ap, ◌∙◌}
use Rattle.dollar_split.proofs.ShareLemmas.{among_first-reaching}
use Rattle.dollar_split.proofs.largest_remainder.give_left_over.Goals as goal

pub returns-in-Some : goal.returns-in-Some
returns-in-Some c = λ i below.
    c.give_to_reaching.ensures i below
    ∙ ap (λ b. get_or c.args.cents.now i 0 + cond b 1 0) (among_first-reaching c.args.priorities.now c.args.left c.in-Some.bound i below c.in-Some.ensures)
