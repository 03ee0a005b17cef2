use Rattle.std.proofs.Common.{suc, arith}
use Rattle.peer_selection.proofs.ClusterLemmas.{cluster_at-in_range, cumulative_quota-all, denominator-positive}
use Rattle.peer_selection.proofs.SeatLemmas.{cumulative_quota-mono}
use Rattle.peer_selection.proofs.ChanceLemmas.{seats-all_draws, chance-exact}
use Rattle.peer_selection.proofs.laws.quotas_are_chances.Goals as goal

pub returns-clause-mean : goal.returns-clause-mean
returns-clause-mean c = λ f i h below. seats-all_draws f i (omega (arith, cumulative_quota-mono f (suc i) f.setting.clusters below, cumulative_quota-all f h.setting h.valid))

pub returns-clause-exact : goal.returns-clause-exact
returns-clause-exact c = λ f p h l.
    let range = cluster_at-in_range f.setting p h.setting l in
    chance-exact f f.setting.clusters p (denominator-positive f h.setting) (cumulative_quota-all f h.setting h.valid) range.0 range.1
