use Rattle.std.proofs.Common.{arith}
use Rattle.std.proofs.lemmas.Bool.Decides.{nat_tests}
use Rattle.peer_selection.specs.Shortage.{needed_in, room_outside, allowed}
use Rattle.cut_gap.proofs.short.is_short.Goals as goal

pub returns : goal.returns
unfolding needed_in room_outside allowed
returns c = grind (arith, nat_tests, c.room_outside.ensures.value, c.allowed.ensures.value, c.needed_in.ensures)
