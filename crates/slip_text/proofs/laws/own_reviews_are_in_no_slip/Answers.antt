use Rattle.slip_text.proofs.ToldLemmas.{own_reviews}
use Rattle.slip_text.proofs.laws.own_reviews_are_in_no_slip.Goals as goal

pub returns : goal.returns
returns c = own_reviews
