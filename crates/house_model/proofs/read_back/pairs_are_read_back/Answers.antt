use Rattle.house_model.proofs.PairTextLemmas.{pairs_text-read}
use Rattle.house_model.proofs.ReadBackLemmas.{setting-read_back, pairs-read_back}
use Rattle.house_model.proofs.read_back.pairs_are_read_back.Goals as goal

pub returns-clause-named : goal.returns-clause-named
returns-clause-named c = pairs_text-read

pub returns-clause-setting : goal.returns-clause-setting
returns-clause-setting c = setting-read_back

pub returns-clause-pairs : goal.returns-clause-pairs
returns-clause-pairs c = pairs-read_back
