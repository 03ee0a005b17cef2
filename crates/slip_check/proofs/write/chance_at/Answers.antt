use Rattle.std.proofs.Common.{◌≡◌, ◌+◌, ◌-◌, ◌*◌, ◌<◌, ap, ◌∙◌, arith}
use Rattle.std.specs.Prelude.{slice_index}
use Rattle.house_base.specs.Grid.{cell}
use Rattle.house_base.specs.Setting.{cluster_at}
use Rattle.house_base.proofs.Settings.{cluster_at-read}
use Rattle.peer_selection.specs.Profile.{cluster_cents, quota}
use Rattle.peer_selection.proofs.ClusterLemmas.{cluster_at-in_range, denominator-positive}
use Rattle.review_desk.specs.Desk.{desk_profile, points_at}
use Rattle.slip_check.proofs.WriteLemmas.{chance-counted, quota_fits}
use Rattle.slip_check.proofs.write.chance_at.Goals as goal

pub cluster_cents-requires-clause-from_one : goal.cluster_cents-requires-clause-from_one
cluster_cents-requires-clause-from_one c =
    let s = c.args.plan.now in
    let range = cluster_at-in_range s c.args.place c.requires.set_up.setting c.requires.place in
    omega (arith, range.0, cluster_at-read s c.args.place c.person.result c.person.ensures)

pub cluster_cents-requires-clause-at_most : goal.cluster_cents-requires-clause-at_most
cluster_cents-requires-clause-at_most c =
    let s = c.args.plan.now in
    let range = cluster_at-in_range s c.args.place c.requires.set_up.setting c.requires.place in
    omega (arith, range.1, cluster_at-read s c.args.place c.person.result c.person.ensures, c.in_ok-totals.ensures.held.clusters)

pub overflow_mul-quota : goal.overflow_mul-quota
overflow_mul-quota c =
    let s = c.args.plan.now in
    let t = c.in_ok-totals.totals in
    let range = cluster_at-in_range s c.args.place c.requires.set_up.setting c.requires.place in
    let at = cluster_at-read s c.args.place c.person.result c.person.ensures in
    let j = c.person.result.cluster - 1 in
    let inside : j < s.clusters = omega (arith, range.0, range.1, at) in
    let quota_is : c.from.result * c.cluster_cents.result ≡ s.seats * slice_index t.clusters j =
    ap (λ x. x * c.cluster_cents.result) (c.from.ensures ∙ c.requires.seats) ∙ ap (λ x. s.seats * x) c.cluster_cents.ensures in
    omega (arith, quota_is, quota_fits s t j c.requires.set_up.setting c.in_ok-totals.ensures.held inside)

pub chance-requires-clause-den : goal.chance-requires-clause-den
chance-requires-clause-den c =
    omega (arith, c.denominator.ensures, c.in_ok-totals.ensures.held.den, denominator-positive (desk_profile c.args.plan.now c.args.desk.now) c.requires.set_up.setting)

pub returns : goal.returns
unfolding quota
returns c =
    let s = c.args.plan.now in
    let f = desk_profile s c.args.desk.now in
    let t = c.in_ok-totals.totals in
    let p = c.args.place in
    let range = cluster_at-in_range s p c.requires.set_up.setting c.requires.place in
    let at = cluster_at-read s p c.person.result c.person.ensures in
    let j = c.person.result.cluster - 1 in
    let inside : j < s.clusters = omega (arith, range.0, range.1, at) in
    let back : j + 1 ≡ cluster_at s p = omega (arith, range.0, at) in
    let width_is : c.from.result * c.cluster_cents.result ≡ s.seats * cluster_cents f (cluster_at s p) =
    ap (λ x. x * c.cluster_cents.result) (c.from.ensures ∙ c.requires.seats)
    ∙ ap (λ x. s.seats * x) (c.cluster_cents.ensures ∙ c.in_ok-totals.ensures.value.cents j inside ∙ ap (cluster_cents f) back) in
    chance-counted f p (c.from.result * c.cluster_cents.result) c.denominator.result c.rank.result c.chance.result
    (record { setting = c.requires.set_up.setting; valid = c.requires.set_up.valid }) c.requires.place width_is
    (c.denominator.ensures ∙ c.in_ok-totals.ensures.held.den)
    (c.rank.ensures.value (cell c.args.desk.now.pairs) (points_at c.args.desk.now) c.in_ok-totals.ensures.value)
    c.chance.ensures.counted
