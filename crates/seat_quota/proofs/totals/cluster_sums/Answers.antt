use Rattle.std.proofs.Common.{◌≡◌, ◌+◌, ◌-◌, ◌*◌, ◌<◌, cond, eqb, length, get_or, sym, ap, ◌∙◌, arith}
use Rattle.house_base.specs.declared.limits.TheConstants.{DOLLAR}
use Rattle.house_base.specs.Setting.{size, cluster_at}
use Rattle.house_base.proofs.Settings.{cluster_at-read}
use Rattle.peer_selection.proofs.CountingLemmas.{sum_below-zero}
use Rattle.std.proofs.lemmas.List.{get_or_default, length-set, get_or-replicate, length-replicate}
use Rattle.seat_quota.proofs.TotalLemmas.{person-in_range, cluster_sum-most, sums-fit, sums_more}
use Rattle.seat_quota.proofs.totals.cluster_sums.Goals as goal

pub loop-place-init : goal.loop-place-init
loop-place-init c =
    let n = c.call.result.clusters in
    record {
      len = ap length c.in_ok-sums.ensures ∙ (length-replicate n 0 ∙ c.call.ensures.clusters);
      sums = λ j l. ap (λ xs. get_or xs j 0) c.in_ok-sums.ensures ∙ (get_or-replicate n j 0 0 (omega (arith, c.call.ensures.clusters)) ∙ sym (sum_below-zero (λ p. cond (eqb (cluster_at c.args.plan.now p) (j + 1)) (get_or c.args.scores.now p 0) 0)));
    }

pub overflow_sub-cluster : goal.overflow_sub-cluster
overflow_sub-cluster c = (person-in_range c.args.plan.now c.loop-place.place c.person.result c.count-place-end.ensures.setting (omega (arith, c.count-place-end.ensures.value)) c.person.ensures).0

pub index_mut-requires : goal.index_mut-requires
index_mut-requires c =
    let range = person-in_range c.args.plan.now c.loop-place.place c.person.result c.count-place-end.ensures.setting (omega (arith, c.count-place-end.ensures.value)) c.person.ensures in
    omega (arith, range.0, range.1, c.loop-place.invariant.len)

pub overflow_add-index_mut : goal.overflow_add-index_mut
overflow_add-index_mut c =
    let s = c.args.plan.now in
    let place = c.loop-place.place in
    let sums = c.loop-place.sums.items in
    let inside : place < size s = omega (arith, c.count-place-end.ensures.value) in
    let range = person-in_range s place c.person.result c.count-place-end.ensures.setting inside c.person.ensures in
    let at = c.person.result.cluster - 1 in
    let within : at < length sums = omega (arith, range.0, range.1, c.loop-place.invariant.len) in
    let read : c.index_mut.result.now ≡ get_or sums at 0 = c.index_mut.ensures.value ∙ get_or_default sums at c.index_mut.result.now 0 within in
    let sum = read ∙ c.loop-place.invariant.sums at (omega (arith, range.0, range.1)) in
    let most = cluster_sum-most s (λ p. get_or c.args.scores.now p 0) (at + 1) place (size s * DOLLAR) (λ p l. c.requires.most p (omega arith)) in
    omega (arith, sums-fit place (size s) c.index_mut.result.now (get_or c.args.scores.now place 0) inside c.count-place-end.ensures.setting.few (omega (arith, sum, most)) (c.requires.most place inside))

pub loop-place-preserved : goal.loop-place-preserved
loop-place-preserved c =
    let s = c.args.plan.now in
    let place = c.loop-place.place in
    let sums = c.loop-place.sums.items in
    let inside : place < size s = omega (arith, c.count-place-end.ensures.value) in
    let range = person-in_range s place c.person.result c.count-place-end.ensures.setting inside c.person.ensures in
    let at = c.person.result.cluster - 1 in
    let v = c.index_mut.result.now + get_or c.args.scores.now place 0 in
    let within : at < length sums = omega (arith, range.0, range.1, c.loop-place.invariant.len) in
    let read : c.index_mut.result.now ≡ get_or sums at 0 = c.index_mut.ensures.value ∙ get_or_default sums at c.index_mut.result.now 0 within in
    let here = cluster_at-read s place c.person.result c.person.ensures in
    record {
      len = length-set sums at v ∙ c.loop-place.invariant.len;
      sums = sums_more s (λ p. get_or c.args.scores.now p 0) sums place at v s.clusters (omega (arith, range.0, here)) within (omega (arith, range.0, range.1)) (ap (λ x. x + get_or c.args.scores.now place 0) read) c.loop-place.invariant.sums;
    }
