use Rattle.std.proofs.Common.{◌+◌, ◌-◌, ◌≤◌, get_or, length, sym, ap, subst, ◌∙◌, arith}
use Rattle.std.proofs.lemmas.List.{get_or_default}
use Rattle.house_base.specs.Setting.{size}
use Rattle.seat_quota.specs.Totals.{Shares, IsSummed}
use Rattle.seat_quota.proofs.ExchangeLemmas.{cluster-of, sum-read, sum-fits, sums-exchanged, cluster_sum-member}
use Rattle.seat_quota.proofs.totals.Totals.exchange.Goals as goal

pub overflow_sub-sum : goal.overflow_sub-sum
overflow_sub-sum c =
    let s = c.args.plan.now in
    let place = c.args.place in
    let at = c.person.result.cluster - 1 in
    let cluster = cluster-of s place c.person.result c.requires.setting c.requires.place c.person.ensures in
    let read = sum-read s c.args.self.now place at c.index-2.result.now c.requires.summed cluster (c.index-2.ensures ∙ ap (λ (t : Shares). get_or t.clusters at c.index-2.result.now) c.self.view_is) in
    let member = cluster_sum-member s (λ p. get_or c.args.self.now.scores p 0) (at + 1) (size s) place c.requires.place (sym cluster.own) in
    omega (arith, c.from-3.ensures, read.1, member, c.requires.enough)

pub overflow_add-sum : goal.overflow_add-sum
overflow_add-sum c =
    let s = c.args.plan.now in
    let place = c.args.place in
    let at = c.person.result.cluster - 1 in
    let cluster = cluster-of s place c.person.result c.requires.setting c.requires.place c.person.ensures in
    let read = sum-read s c.args.self.now place at c.index-2.result.now c.requires.summed cluster (c.index-2.ensures ∙ ap (λ (t : Shares). get_or t.clusters at c.index-2.result.now) c.self.view_is) in
    let fits = sum-fits s c.args.self.now (at + 1) c.args.before c.args.after c.requires.setting c.requires.most c.requires.few in
    omega (arith, c.from-3.ensures, c.from-4.ensures, read.1, fits)

pub index_mut-requires-2 : goal.index_mut-requires-2
index_mut-requires-2 c =
    let cluster = cluster-of c.args.plan.now c.args.place c.person.result c.requires.setting c.requires.place c.person.ensures in
    omega (arith, cluster.within, c.requires.summed.clusters, ap (λ (t : Shares). length t.clusters) c.self.view_is)

pub returns-clause-summed : goal.returns-clause-summed
returns-clause-summed c =
    let s = c.args.plan.now in
    let place = c.args.place in
    let at = c.person.result.cluster - 1 in
    let t : Shares = record { scores = c.self.inside.scores.items; clusters = c.self.inside.clusters.items; den = c.self.inside.den } in
    let summed : IsSummed s t = subst (IsSummed s) (sym c.self.view_is) c.requires.summed in
    let cluster = cluster-of s place c.person.result c.requires.setting c.requires.place c.person.ensures in
    let sum = sum-read s t place at c.index-2.result.now summed cluster c.index-2.ensures in
    let score = c.index.ensures ∙ get_or_default t.scores place c.index.result.now 0 (omega (arith, summed.scores, c.requires.place)) in
    let enough : c.args.before ≤ get_or t.scores place 0 = omega (arith, c.requires.enough, ap (λ (t : Shares). get_or t.scores place 0) c.self.view_is) in
    sums-exchanged s t place at (c.index.result.now - c.from.result + c.from-2.result) (c.index-2.result.now - c.from-3.result + c.from-4.result) c.args.before c.args.after summed c.requires.place cluster.own cluster.within
    enough
    (omega (arith, score, c.from.ensures, c.from-2.ensures)) (omega (arith, sum.0, c.from-3.ensures, c.from-4.ensures))
