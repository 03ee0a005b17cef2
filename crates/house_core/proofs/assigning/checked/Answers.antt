use Rattle.std.proofs.Common.{◌∙◌}
use Rattle.house_base.specs.Grid.{cell}
use Rattle.peer_selection.proofs.SameLemmas.{is_valid-same}
use Rattle.house_core.proofs.assigning.checked.Goals as goal

pub begun-requires-clause-valid : goal.begun-requires-clause-valid
begun-requires-clause-valid c = rw (← c.deref.ensures) (is_valid-same c.deref.result.now (cell c.in-Ok.pairs) _ c.in-Ok.ensures.pairs ∙ c.in-Ok.ensures.valid)
