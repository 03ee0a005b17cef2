use Rattle.peer_selection.proofs.DistanceLemmas.{row-holds, row-rises}
use Rattle.peer_selection.proofs.RowLemmas.{row-below}
use Rattle.peer_selection.proofs.laws.rows_rise_in_distance.Goals as goal

pub returns-clause-holds : goal.returns-clause-holds
returns-clause-holds c = row-holds

pub returns-clause-within : goal.returns-clause-within
returns-clause-within c = row-below

pub returns-clause-rises : goal.returns-clause-rises
returns-clause-rises c = row-rises
