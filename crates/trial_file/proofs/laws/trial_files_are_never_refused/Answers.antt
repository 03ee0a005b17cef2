use Rattle.trial_file.proofs.NeverLemmas.{never_refused}
use Rattle.trial_file.proofs.laws.trial_files_are_never_refused.Goals as goal

pub returns : goal.returns
returns c = never_refused
