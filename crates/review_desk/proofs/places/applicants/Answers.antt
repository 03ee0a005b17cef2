use Rattle.std.proofs.Common.{◌∙◌}
use Rattle.house_base.specs.declared.plan.Person.{Person}
use Rattle.review_desk.proofs.PlaceLemmas.{name-new, names-more}
use Rattle.review_desk.proofs.places.applicants.Goals as goal

pub add-requires-clause-unknown : goal.add-requires-clause-unknown
add-requires-clause-unknown c =
    name-new (λ (p : Person). p.name) c.args.plan.now.people c.loop-place.place c.person.result c.loop-place.names
    c.count-place-end.ensures.setting.names_differ c.person.ensures c.loop-place.invariant

pub loop-place-preserved : goal.loop-place-preserved
loop-place-preserved c =
    c.in_ok-add.ensures.added
    ∙ names-more (λ (p : Person). p.name) c.args.plan.now.people c.loop-place.place c.person.result c.loop-place.names c.person.ensures c.loop-place.invariant
