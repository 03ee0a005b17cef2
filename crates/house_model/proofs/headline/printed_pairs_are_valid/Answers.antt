use Rattle.house_model.proofs.HeadlineLemmas.{settled_validly}
use Rattle.house_model.proofs.headline.printed_pairs_are_valid.Goals as goal

pub returns : goal.returns
returns c = settled_validly
