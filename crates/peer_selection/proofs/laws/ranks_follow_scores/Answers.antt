use Rattle.peer_selection.proofs.SelectionLemmas.{rank-within, rank-apart, rank-falls}
use Rattle.peer_selection.proofs.laws.ranks_follow_scores.Goals as goal

pub returns-clause-within : goal.returns-clause-within
returns-clause-within c = rank-within

pub returns-clause-differ : goal.returns-clause-differ
returns-clause-differ c = rank-apart

pub returns-clause-fall : goal.returns-clause-fall
returns-clause-fall c = rank-falls
