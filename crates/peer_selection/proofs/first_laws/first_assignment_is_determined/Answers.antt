use Rattle.peer_selection.proofs.FirstAmongLemmas.{first_assignment-same}
use Rattle.peer_selection.proofs.FirstAssignmentLemmas.{first-determined}
use Rattle.peer_selection.proofs.first_laws.first_assignment_is_determined.Goals as goal

pub returns-clause-one : goal.returns-clause-one
returns-clause-one c = first-determined

pub returns-clause-found : goal.returns-clause-found
returns-clause-found c = first_assignment-same
