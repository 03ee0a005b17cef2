use Rattle.house_model.proofs.EndTextLemmas.{end_text-ascii}
use Rattle.house_model.proofs.end_texts.end_texts_are_ascii.Goals as goal

pub returns : goal.returns
returns c = end_text-ascii
