use Rattle.house_model.proofs.RunEndLemmas.{shortage-ends}
use Rattle.house_model.proofs.runs.shortages_end_runs.Goals as goal

pub returns : goal.returns
returns c = shortage-ends
