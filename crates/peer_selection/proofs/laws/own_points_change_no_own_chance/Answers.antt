use Rattle.peer_selection.proofs.ImpartialLemmas.{score-same, rank-same, quota-same, chance-same}
use Rattle.peer_selection.proofs.laws.own_points_change_no_own_chance.Goals as goal

pub returns-clause-scores : goal.returns-clause-scores
returns-clause-scores c = λ f reviewer p points h. score-same f reviewer points h p

pub returns-clause-ranks : goal.returns-clause-ranks
returns-clause-ranks c = λ f reviewer p points h. rank-same f reviewer points h p

pub returns-clause-quotas : goal.returns-clause-quotas
returns-clause-quotas c = quota-same

pub returns-clause-chances : goal.returns-clause-chances
returns-clause-chances c = λ f reviewer p points h. chance-same f reviewer points h p
