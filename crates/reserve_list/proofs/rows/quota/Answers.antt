use Rattle.std.proofs.Common.{ap, ◌∙◌, ◌-◌, get_or, length, arith}
use Rattle.reserve_list.specs.Board.{cluster_on}
use Rattle.reserve_list.proofs.RowLemmas.{cluster-read, quota-read}
use Rattle.reserve_list.proofs.rows.quota.Goals as goal

pub overflow_sub-result : goal.overflow_sub-result
overflow_sub-result c = omega (arith, c.requires.from_one, cluster-read c.args.outcome.now c.applicants.result.now c.args.number c.index-applicants-number.result c.applicants.ensures c.requires.number)

pub bounds-clusters-cluster : goal.bounds-clusters-cluster
bounds-clusters-cluster c = omega (arith, c.requires.from_one, c.requires.within, cluster-read c.args.outcome.now c.applicants.result.now c.args.number c.index-applicants-number.result c.applicants.ensures c.requires.number, ap length c.clusters.ensures)

pub returns : goal.returns
returns c =
    let e = cluster-read c.args.outcome.now c.applicants.result.now c.args.number c.index-applicants-number.result c.applicants.ensures c.requires.number in
    ap (λ j. (get_or c.clusters.result.now (j - 1) (record { cents = 0; quota = 0; seats = 0; filled = 0 })).quota) e
    ∙ quota-read c.args.outcome.now c.clusters.result.now (cluster_on c.args.outcome.now c.args.number) (record { cents = 0; quota = 0; seats = 0; filled = 0 }) c.clusters.ensures c.requires.from_one c.requires.within
