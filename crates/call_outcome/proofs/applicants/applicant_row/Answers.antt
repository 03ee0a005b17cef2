use Rattle.std.proofs.Common.{◌≡◌, ℕ, ◌-◌, leb, get_or, sym, subst, ◌∙◌, arith}
use Rattle.house_base.proofs.Settings.{cluster_at-read}
use Rattle.peer_selection.specs.Profile.{profile_on}
use Rattle.house_model.specs.Report.{applicant_row}
use Rattle.call_outcome.proofs.OutcomePlaceLemmas.{name_at-read, person_at-read}
use Rattle.call_outcome.proofs.OutcomeLemmas.{no_row, person-in_range, den-some, applicant_with, applicant_row-from}
use Rattle.call_outcome.proofs.applicants.applicant_row.Goals as goal

pub overflow_sub-cluster : goal.overflow_sub-cluster
overflow_sub-cluster c = (person-in_range c.args.plan.now c.args.place c.person-person.result c.requires.setting c.requires.place c.person-person.ensures).0

pub bounds-clusters-person : goal.bounds-clusters-person
bounds-clusters-person c =
    let range = person-in_range c.args.plan.now c.args.place c.person-person.result c.requires.setting c.requires.place c.person-person.ensures in
    omega (arith, range.0, range.1, c.requires.clusters)

pub chance-requires-clause-den : goal.chance-requires-clause-den
chance-requires-clause-den c = omega (arith, c.denominator.ensures, c.requires.totals.den, den-some c.args.plan.now c.requires.setting)

pub returns : goal.returns
returns c =
    let s = c.args.plan.now in
    let range = person-in_range s c.args.place c.person-person.result c.requires.setting c.requires.place c.person-person.ensures in
    λ pairs points v assigned is rows.
    let f = profile_on s pairs points in
    let P : ℕ → Type 0 = λ r. applicant_with c.person-person.result.name c.owner_at.result.name c.person-person.result.cluster c.rank-rank.result c.score.result c.chance.result (leb r (get_or c.args.clusters.now (c.person-person.result.cluster - 1) no_row).seats) ≡ applicant_row f v c.args.place in
    subst P (sym c.from.ensures)
    (applicant_row-from f v c.args.place c.person-person.result.name c.owner_at.result.name c.person-person.result.cluster c.rank-rank.result c.score.result c.denominator.result c.chance.result c.args.clusters.now assigned c.requires.place rows range.0 range.1
    (name_at-read s c.args.place c.person-person.result c.person-person.ensures)
    (person_at-read s c.args.place c.owner_at.result c.requires.setting c.owner_at.ensures.person c.owner_at.ensures.owned)
    (sym (cluster_at-read s c.args.place c.person-person.result c.person-person.ensures))
    (c.rank-rank.ensures.value pairs points is)
    (c.score.ensures ∙ is.score c.args.place c.requires.place)
    (c.denominator.ensures ∙ c.requires.totals.den)
    c.chance.ensures.counted)
