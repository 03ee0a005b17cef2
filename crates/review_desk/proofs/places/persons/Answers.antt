use Rattle.std.proofs.Common.{◌∙◌}
use Rattle.house_base.specs.declared.plan.Owner.{Owner}
use Rattle.review_desk.proofs.PlaceLemmas.{name-new, names-more}
use Rattle.review_desk.proofs.places.persons.Goals as goal

pub add-requires-clause-unknown : goal.add-requires-clause-unknown
add-requires-clause-unknown c =
    name-new (λ (o : Owner). o.name) c.args.plan.now.owners c.loop-index.index c.owner.result c.loop-index.names
    c.requires.owners_differ c.owner.ensures c.loop-index.invariant

pub loop-index-preserved : goal.loop-index-preserved
loop-index-preserved c =
    c.in_ok-add.ensures.added
    ∙ names-more (λ (o : Owner). o.name) c.args.plan.now.owners c.loop-index.index c.owner.result c.loop-index.names c.owner.ensures c.loop-index.invariant
