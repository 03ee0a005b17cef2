use Rattle.std.proofs.Common.{ap, ◌∙◌}
use Rattle.reserve_list.proofs.RowLemmas.{behind-read, behind-read_here, cluster-read, rank-read}
use Rattle.reserve_list.proofs.rows.is_behind.Goals as goal

pub returns-then-ahead-row : goal.returns-then-ahead-row
returns-then-ahead-row c =
    let a = c.index-applicants-number in
    let b = c.index-applicants-other in
    behind-read_here c.args.outcome.now c.args.number c.args.other a.result b.result
    (ap (λ r. r.cluster) a.is ∙ cluster-read c.args.outcome.now c.applicants.result.now c.args.number a.result c.applicants.ensures c.requires.number)
    (ap (λ r. r.rank) a.is ∙ rank-read c.args.outcome.now c.applicants.result.now c.args.number a.result c.applicants.ensures c.requires.number)
    (ap (λ r. r.cluster) b.is ∙ cluster-read c.args.outcome.now c.applicants-2.result.now c.args.other b.result c.applicants-2.ensures c.requires.other)
    (ap (λ r. r.rank) b.is ∙ rank-read c.args.outcome.now c.applicants-2.result.now c.args.other b.result c.applicants-2.ensures c.requires.other)
    c.if-ahead-row.true

pub returns-else-ahead-row : goal.returns-else-ahead-row
returns-else-ahead-row c =
    let a = c.index-applicants-number in
    let b = c.index-applicants-other in
    behind-read c.args.outcome.now c.args.number c.args.other a.result b.result
    (ap (λ r. r.cluster) a.is ∙ cluster-read c.args.outcome.now c.applicants.result.now c.args.number a.result c.applicants.ensures c.requires.number)
    (ap (λ r. r.cluster) b.is ∙ cluster-read c.args.outcome.now c.applicants-2.result.now c.args.other b.result c.applicants-2.ensures c.requires.other)
    c.if-ahead-row.false
