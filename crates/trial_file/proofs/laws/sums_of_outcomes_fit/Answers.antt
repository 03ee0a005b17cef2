use Rattle.trial_file.proofs.ToldLemmas.{sums_fit}
use Rattle.trial_file.proofs.laws.sums_of_outcomes_fit.Goals as goal

pub returns : goal.returns
returns c = sums_fit
