use Rattle.house_model.proofs.FormedNameLemmas.{names-formed}
use Rattle.house_model.proofs.runs.accepted_names_are_formed.Goals as goal

pub returns : goal.returns
returns c = names-formed
