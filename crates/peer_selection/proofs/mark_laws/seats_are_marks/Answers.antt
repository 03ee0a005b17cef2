use Rattle.peer_selection.proofs.MarkLemmas.{seats-marks_of, chance-marks_of}
use Rattle.peer_selection.proofs.mark_laws.seats_are_marks.Goals as goal

pub returns-clause-seats : goal.returns-clause-seats
returns-clause-seats c = λ f i v h below. seats-marks_of f i v h below

pub returns-clause-chance : goal.returns-clause-chance
returns-clause-chance c = λ f p h l. chance-marks_of f p h l
