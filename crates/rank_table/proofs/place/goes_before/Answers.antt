use Rattle.std.proofs.Common.{get_or, sym, ◌∙◌}
use Rattle.rank_table.proofs.RankLemmas.{goes_before-read, before_then, before_tied, before_last, before_else}
use Rattle.rank_table.proofs.place.goes_before.Goals as goal

pub returns-then-score-own : goal.returns-then-score-own
returns-then-score-own c =
    before_then c.person.result.cluster c.person-2.result.cluster c.score-own.result c.score-score.result c.args.rival c.args.place c.if-same_cluster.true c.if-score-own.true
    ∙ sym (goes_before-read c.args.plan.now (λ p. get_or c.args.totals.now.scores p 0) c.args.rival c.args.place c.person.result c.person-2.result c.score-own.result c.score-score.result c.person.ensures c.person-2.ensures c.score-own.ensures c.score-score.ensures)

pub returns-then-score-own-2 : goal.returns-then-score-own-2
returns-then-score-own-2 c =
    before_tied c.person.result.cluster c.person-2.result.cluster c.score-own.result c.score-score.result c.args.rival c.args.place c.if-same_cluster.true c.if-score-own-2.true
    ∙ sym (goes_before-read c.args.plan.now (λ p. get_or c.args.totals.now.scores p 0) c.args.rival c.args.place c.person.result c.person-2.result c.score-own.result c.score-score.result c.person.ensures c.person-2.ensures c.score-own.ensures c.score-score.ensures)

pub returns-else-score-own-2 : goal.returns-else-score-own-2
returns-else-score-own-2 c =
    before_last c.person.result.cluster c.person-2.result.cluster c.score-own.result c.score-score.result c.args.rival c.args.place c.if-same_cluster.true c.if-score-own.false c.if-score-own-2.false
    ∙ sym (goes_before-read c.args.plan.now (λ p. get_or c.args.totals.now.scores p 0) c.args.rival c.args.place c.person.result c.person-2.result c.score-own.result c.score-score.result c.person.ensures c.person-2.ensures c.score-own.ensures c.score-score.ensures)

pub returns-else-same_cluster : goal.returns-else-same_cluster
returns-else-same_cluster c =
    before_else c.person.result.cluster c.person-2.result.cluster c.score-own.result c.score-score.result c.args.rival c.args.place c.if-same_cluster.false
    ∙ sym (goes_before-read c.args.plan.now (λ p. get_or c.args.totals.now.scores p 0) c.args.rival c.args.place c.person.result c.person-2.result c.score-own.result c.score-score.result c.person.ensures c.person-2.ensures c.score-own.ensures c.score-score.ensures)
