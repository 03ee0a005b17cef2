use Rattle.slip_check.proofs.WorthLemmas.{worth-chance}
use Rattle.slip_check.proofs.laws.worth_is_the_chance.Goals as goal

pub returns : goal.returns
returns c = worth-chance
