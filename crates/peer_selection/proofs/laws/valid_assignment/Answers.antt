use Rattle.peer_selection.proofs.ValidLemmas.{is_valid-iff}
use Rattle.peer_selection.proofs.laws.valid_assignment.Goals as goal

pub returns : goal.returns
returns c = is_valid-iff
