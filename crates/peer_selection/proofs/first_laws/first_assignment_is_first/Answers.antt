use Rattle.peer_selection.proofs.FirstAmongLemmas.{has_assignment-exact, has_assignment-none, first_assignment-first}
use Rattle.peer_selection.proofs.first_laws.first_assignment_is_first.Goals as goal

pub returns-clause-some : goal.returns-clause-some
returns-clause-some c = has_assignment-exact

pub returns-clause-none : goal.returns-clause-none
returns-clause-none c = has_assignment-none

pub returns-clause-valid : goal.returns-clause-valid
returns-clause-valid c = λ s some. (first_assignment-first s some).valid

pub returns-clause-first : goal.returns-clause-first
returns-clause-first c = first_assignment-first
