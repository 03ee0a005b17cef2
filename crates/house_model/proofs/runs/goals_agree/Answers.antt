use Rattle.house_model.proofs.RunEndLemmas.{pairs-of_done, feasible-of_pairs}
use Rattle.house_model.proofs.runs.goals_agree.Goals as goal

pub returns-clause-pairs : goal.returns-clause-pairs
returns-clause-pairs c = pairs-of_done

pub returns-clause-feasible : goal.returns-clause-feasible
returns-clause-feasible c = feasible-of_pairs
