use Rattle.std.proofs.Common.{◌≡◌, ◌<◌, ◌||◌, All, length, sym, ap, ◌∙◌, subst, arith}
use Rattle.house_base.specs.Setting.{IsSetting}
use Rattle.peer_selection.specs.Profile.{denominator}
use Rattle.house_model.specs.Naming.{HasNamesOf}
use Rattle.house_model.specs.Register.{persons, owners_from, all_placed}
use Rattle.house_model.specs.Seeds.{seeded_setting}
use Rattle.cluster_draw.specs.Barred.{is_barred}
use Rattle.cluster_draw.specs.Placings.{names_of, applicants_in, AreReviewers}
use Rattle.cluster_draw.proofs.FreezeLemmas.{frozen, known, AreApplicants-frozen, AreReviewers-frozen, IsSetting-frozen, HasNamesOf-frozen, denominator-frozen, setting_frozen}
use Rattle.cluster_draw.proofs.plan.freeze.Goals as goal

pub people_and_owners-requires-clause-known : goal.people_and_owners-requires-clause-known
people_and_owners-requires-clause-known c =
    let seed = c.args.seed in
    let call = c.args.call in
    let reg = c.args.book.now in
    let placings = c.in_ok-placings.placings.items in
    let f = frozen seed call reg placings c.count.ensures.register c.count.ensures.known_conflicts (omega (arith, c.if-count-eq0.false, c.count.ensures.value))
    (ap (λ b. b || all_placed reg) (sym c.is_some.ensures) ∙ (sym c.has_clusters.ensures ∙ c.if-not-has_clusters.false)) c.requires.placed c.in_ok-placings.ensures.placings c.in_ok-placings.ensures.order in
    subst (λ l. All (λ placing. placing.person < length (persons reg)) l) (sym c.deref.ensures.value) (known seed call.seats call.clusters call.reviews reg placings f)

pub barred_pairs-requires-clause-applicants : goal.barred_pairs-requires-clause-applicants
barred_pairs-requires-clause-applicants c =
    let seed = c.args.seed in
    let call = c.args.call in
    let reg = c.args.book.now in
    let placings = c.in_ok-placings.placings.items in
    let f = frozen seed call reg placings c.count.ensures.register c.count.ensures.known_conflicts (omega (arith, c.if-count-eq0.false, c.count.ensures.value))
    (ap (λ b. b || all_placed reg) (sym c.is_some.ensures) ∙ (sym c.has_clusters.ensures ∙ c.if-not-has_clusters.false)) c.requires.placed c.in_ok-placings.ensures.placings c.in_ok-placings.ensures.order in
    let people = c.in_ok-people.ensures.people ∙ ap (applicants_in reg) c.deref.ensures.value in
    AreApplicants-frozen seed call.seats call.clusters call.reviews reg placings f c.deref-2.result.now (c.deref-2.ensures.value ∙ people)

pub barred_pairs-requires-clause-reviewers : goal.barred_pairs-requires-clause-reviewers
barred_pairs-requires-clause-reviewers c =
    let seed = c.args.seed in
    let call = c.args.call in
    let reg = c.args.book.now in
    let placings = c.in_ok-placings.placings.items in
    let f = frozen seed call reg placings c.count.ensures.register c.count.ensures.known_conflicts (omega (arith, c.if-count-eq0.false, c.count.ensures.value))
    (ap (λ b. b || all_placed reg) (sym c.is_some.ensures) ∙ (sym c.has_clusters.ensures ∙ c.if-not-has_clusters.false)) c.requires.placed c.in_ok-placings.ensures.placings c.in_ok-placings.ensures.order in
    let owners = c.in_ok-people.ensures.owners ∙ ap (λ l. owners_from reg 0 (names_of reg l)) c.deref.ensures.value in
    subst (λ l. AreReviewers reg l c.deref-3.result.now) (sym c.deref-4.ensures.value)
    (AreReviewers-frozen seed call.seats call.clusters call.reviews reg placings f c.deref-3.result.now (c.deref-3.ensures.value ∙ owners))

pub build-requires : goal.build-requires
build-requires c =
    let seed = c.args.seed in
    let call = c.args.call in
    let reg = c.args.book.now in
    let placings = c.in_ok-placings.placings.items in
    let f = frozen seed call reg placings c.count.ensures.register c.count.ensures.known_conflicts (omega (arith, c.if-count-eq0.false, c.count.ensures.value))
    (ap (λ b. b || all_placed reg) (sym c.is_some.ensures) ∙ (sym c.has_clusters.ensures ∙ c.if-not-has_clusters.false)) c.requires.placed c.in_ok-placings.ensures.placings c.in_ok-placings.ensures.order in
    let people = c.in_ok-people.ensures.people ∙ ap (applicants_in reg) c.deref.ensures.value in
    let owners = c.in_ok-people.ensures.owners ∙ ap (λ l. owners_from reg 0 (names_of reg l)) c.deref.ensures.value in
    let whole = setting_frozen seed call.seats call.clusters call.reviews reg placings f c.in_ok-people.people.items c.in_ok-people.owners.items c.in_ok-barred.barred
    people owners c.in_ok-barred.ensures.side c.in_ok-barred.ensures.square
    (λ r p rl pl. c.in_ok-barred.ensures.cells r p rl pl
    ∙ (ap (λ l. is_barred reg.barred l c.deref-3.result.now r p) c.deref-2.ensures.value ∙ ap (λ l. is_barred reg.barred c.in_ok-people.people.items l r p) c.deref-3.ensures.value)) in
    subst (λ s. IsSetting s) (sym whole) (IsSetting-frozen seed call.seats call.clusters call.reviews reg placings f)

pub returns-clause-plan : goal.returns-clause-plan
returns-clause-plan c =
    let seed = c.args.seed in
    let call = c.args.call in
    let reg = c.args.book.now in
    let placings = c.in_ok-placings.placings.items in
    let f = frozen seed call reg placings c.count.ensures.register c.count.ensures.known_conflicts (omega (arith, c.if-count-eq0.false, c.count.ensures.value))
    (ap (λ b. b || all_placed reg) (sym c.is_some.ensures) ∙ (sym c.has_clusters.ensures ∙ c.if-not-has_clusters.false)) c.requires.placed c.in_ok-placings.ensures.placings c.in_ok-placings.ensures.order in
    let people = c.in_ok-people.ensures.people ∙ ap (applicants_in reg) c.deref.ensures.value in
    let owners = c.in_ok-people.ensures.owners ∙ ap (λ l. owners_from reg 0 (names_of reg l)) c.deref.ensures.value in
    let whole = setting_frozen seed call.seats call.clusters call.reviews reg placings f c.in_ok-people.people.items c.in_ok-people.owners.items c.in_ok-barred.barred
    people owners c.in_ok-barred.ensures.side c.in_ok-barred.ensures.square
    (λ r p rl pl. c.in_ok-barred.ensures.cells r p rl pl
    ∙ (ap (λ l. is_barred reg.barred l c.deref-3.result.now r p) c.deref-2.ensures.value ∙ ap (λ l. is_barred reg.barred c.in_ok-people.people.items l r p) c.deref-3.ensures.value)) in
    c.build.ensures ∙ whole

pub returns-clause-names : goal.returns-clause-names
returns-clause-names c =
    let call = c.args.call in
    let reg = c.args.book.now in
    let placings = c.in_ok-placings.placings.items in
    let made : c.build.result ≡ seeded_setting c.args.seed call.seats call.clusters call.reviews reg = returns-clause-plan c in
    let f = frozen c.args.seed call reg placings c.count.ensures.register c.count.ensures.known_conflicts (omega (arith, c.if-count-eq0.false, c.count.ensures.value))
    (ap (λ b. b || all_placed reg) (sym c.is_some.ensures) ∙ (sym c.has_clusters.ensures ∙ c.if-not-has_clusters.false)) c.requires.placed c.in_ok-placings.ensures.placings c.in_ok-placings.ensures.order in
    subst (λ s. HasNamesOf reg.applicants s) (sym made) (HasNamesOf-frozen c.args.seed call.seats call.clusters call.reviews reg placings f)

pub returns-clause-common_denominator : goal.returns-clause-common_denominator
returns-clause-common_denominator c =
    let call = c.args.call in
    let reg = c.args.book.now in
    let placings = c.in_ok-placings.placings.items in
    let made : c.build.result ≡ seeded_setting c.args.seed call.seats call.clusters call.reviews reg = returns-clause-plan c in
    let f = frozen c.args.seed call reg placings c.count.ensures.register c.count.ensures.known_conflicts (omega (arith, c.if-count-eq0.false, c.count.ensures.value))
    (ap (λ b. b || all_placed reg) (sym c.is_some.ensures) ∙ (sym c.has_clusters.ensures ∙ c.if-not-has_clusters.false)) c.requires.placed c.in_ok-placings.ensures.placings c.in_ok-placings.ensures.order in
    ap denominator made ∙ denominator-frozen c.args.seed call.seats call.clusters call.reviews reg placings f
