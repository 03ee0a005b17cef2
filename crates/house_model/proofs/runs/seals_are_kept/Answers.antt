use Rattle.house_model.proofs.SealLemmas.{draw-unsealed, lottery-sealed, drawn-under}
use Rattle.house_model.proofs.runs.seals_are_kept.Goals as goal

pub returns-clause-draw : goal.returns-clause-draw
returns-clause-draw c = draw-unsealed

pub returns-clause-lottery : goal.returns-clause-lottery
returns-clause-lottery c = lottery-sealed

pub returns-clause-call : goal.returns-clause-call
returns-clause-call c = drawn-under
