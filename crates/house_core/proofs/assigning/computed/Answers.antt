use Rattle.house_base.specs.Grid.{cell}
use Rattle.peer_selection.specs.FirstAssignment.{first_assignment}
use Rattle.house_core.proofs.StateLemmas.{begins_as}
use Rattle.house_core.proofs.assigning.computed.Goals as goal

pub returns-in-Ok-Pairs-clause-begins : goal.returns-in-Ok-Pairs-clause-begins
returns-in-Ok-Pairs-clause-begins c =
    begins_as c.args.plan.value (cell c.in-Ok-Pairs.pairs) (first_assignment c.args.plan.value) c.begun.result (rw (c.in-Ok-Pairs.field-0-is, c.deref.ensures) at c.in-Ok-Pairs.ensures.value) c.begun.ensures.begins
