use Rattle.end_text.proofs.TextLemmas.{end_text-found}
use Rattle.end_text.proofs.laws.end_text_is_found.Goals as goal

pub returns : goal.returns
returns c = end_text-found
