use Rattle.house_model.proofs.RunEndLemmas.{accepted-some, accepted-valid, accepted-first}
use Rattle.house_model.proofs.runs.accepted_assignments_are_valid.Goals as goal

pub returns-clause-some : goal.returns-clause-some
returns-clause-some c = accepted-some

pub returns-clause-valid : goal.returns-clause-valid
returns-clause-valid c = accepted-valid

pub returns-clause-first : goal.returns-clause-first
returns-clause-first c = accepted-first
