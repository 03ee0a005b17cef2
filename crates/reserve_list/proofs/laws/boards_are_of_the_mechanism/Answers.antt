use Rattle.reserve_list.proofs.OutcomeLemmas.{board-of_mechanism, names-of_mechanism, text-of_mechanism}
use Rattle.reserve_list.proofs.laws.boards_are_of_the_mechanism.Goals as goal

pub returns-clause-places : goal.returns-clause-places
returns-clause-places c = board-of_mechanism

pub returns-clause-names : goal.returns-clause-names
returns-clause-names c = names-of_mechanism

pub returns-clause-text : goal.returns-clause-text
returns-clause-text c = text-of_mechanism
