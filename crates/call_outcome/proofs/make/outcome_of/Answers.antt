use Rattle.std.proofs.Common.{length, ap, ◌∙◌, arith}
use Rattle.peer_selection.specs.Profile.{profile_on}
use Rattle.call_outcome.proofs.OutcomeLemmas.{outcome_of-from, empty-from}
use Rattle.call_outcome.proofs.make.outcome_of.Goals as goal

pub empty_seats-empty-requires-clause-few : goal.empty_seats-empty-requires-clause-few
empty_seats-empty-requires-clause-few c = omega (arith, ap length c.deref-2.ensures.value, c.in_ok-clusters.ensures.len, c.requires.setting.clusters_in_range.1)

pub returns : goal.returns
returns c = λ pairs points assigned is.
    let f = profile_on c.args.plan.now pairs points in
    let clusters = c.in_ok-clusters.ensures.value pairs points is in
    c.make.ensures ∙ outcome_of-from f c.args.asides c.args.draw c.call.result.seats c.call.result.clusters c.call.result.reviews c.denominator.result c.owners.result c.empty_seats-empty.result c.in_ok-clusters.clusters.items c.in_ok-applicants.applicants.items
    c.call.ensures.seats c.call.ensures.clusters c.call.ensures.reviews
    (c.denominator.ensures ∙ c.requires.totals.den)
    c.owners.ensures.value
    clusters
    (c.in_ok-applicants.ensures pairs points c.args.draw assigned is (c.deref.ensures.value ∙ clusters))
    (c.empty_seats-empty.ensures ∙ empty-from f c.args.draw c.deref-2.result.now (c.deref-2.ensures.value ∙ clusters))
