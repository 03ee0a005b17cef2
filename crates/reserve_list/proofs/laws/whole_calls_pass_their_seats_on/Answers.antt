use Rattle.reserve_list.proofs.ToldLemmas.{seats-passed_on}
use Rattle.reserve_list.proofs.laws.whole_calls_pass_their_seats_on.Goals as goal

pub returns : goal.returns
returns c = seats-passed_on
