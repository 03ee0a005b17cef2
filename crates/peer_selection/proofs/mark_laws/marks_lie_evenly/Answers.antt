use Rattle.peer_selection.proofs.MarkLemmas.{marks-rounded, marks-all_draws}
use Rattle.peer_selection.proofs.mark_laws.marks_lie_evenly.Goals as goal

pub returns-clause-rounded : goal.returns-clause-rounded
returns-clause-rounded c = marks-rounded

pub returns-clause-all : goal.returns-clause-all
returns-clause-all c = marks-all_draws
