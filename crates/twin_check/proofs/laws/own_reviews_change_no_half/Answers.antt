use Rattle.twin_check.proofs.AlikeLemmas.{halves_of_call}
use Rattle.twin_check.proofs.laws.own_reviews_change_no_half.Goals as goal

pub returns : goal.returns
returns c = halves_of_call
