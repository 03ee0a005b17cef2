use Rattle.house_model.proofs.SettledLemmas.{settled-some, settled-valid, settled-first}
use Rattle.house_model.proofs.runs.settled_goals_are_reached.Goals as goal

pub returns-clause-some : goal.returns-clause-some
returns-clause-some c = settled-some

pub returns-clause-valid : goal.returns-clause-valid
returns-clause-valid c = settled-valid

pub returns-clause-first : goal.returns-clause-first
returns-clause-first c = settled-first
