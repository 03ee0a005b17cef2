use Rattle.slip_text.proofs.ToldLemmas.{prints_chances}
use Rattle.slip_text.proofs.laws.right_slips_print_chances.Goals as goal

pub returns : goal.returns
returns c = prints_chances
