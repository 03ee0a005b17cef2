use Rattle.std.proofs.Common.{◌∙◌, ◌+◌, ap, get_or, []}
use Rattle.slip_check.proofs.GiveLemmas.{cents_are, no_more_than_all}
use Rattle.slip_check.proofs.count.give.Goals as goal

pub returns-clause-scores : goal.returns-clause-scores
returns-clause-scores c = λ k kl.
    c.give_cents.ensures.scores k kl
    ∙ ap (λ n. get_or c.args.scores.now k 0 + n)
    (cents_are c.split.new.cents c.args.points.now c.args.proposals.now (get_or c.args.members.now k []) c.requires.point_each
    (λ i il. c.split.ensures.shares i il))

pub give_cents-requires-clause-few : goal.give_cents-requires-clause-few
give_cents-requires-clause-few c = no_more_than_all _ _ c.split.ensures.whole
