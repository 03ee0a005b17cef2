use Rattle.house_model.proofs.EndTextLemmas.{end_text-determined}
use Rattle.house_model.proofs.end_texts.end_text_is_determined.Goals as goal

pub returns : goal.returns
returns c = end_text-determined
