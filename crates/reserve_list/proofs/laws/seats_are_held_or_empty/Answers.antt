use Rattle.reserve_list.proofs.SetLemmas.{seats-held}
use Rattle.reserve_list.proofs.laws.seats_are_held_or_empty.Goals as goal

pub returns : goal.returns
returns c = seats-held
