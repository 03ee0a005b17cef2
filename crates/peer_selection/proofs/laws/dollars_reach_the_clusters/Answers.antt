use Rattle.peer_selection.proofs.ClusterLemmas.{cents-of_person, cluster_cents-all, cumulative_quota-all}
use Rattle.peer_selection.proofs.laws.dollars_reach_the_clusters.Goals as goal

pub returns-clause-given : goal.returns-clause-given
returns-clause-given c = λ f r h. cents-of_person f r h

pub returns-clause-shared : goal.returns-clause-shared
returns-clause-shared c = λ f h. cluster_cents-all f h.setting h.valid

pub returns-clause-filled : goal.returns-clause-filled
returns-clause-filled c = λ f h. cumulative_quota-all f h.setting h.valid
