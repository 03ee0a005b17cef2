use Rattle.std.proofs.Common.{◌≡◌}
use Rattle.reserve_list.specs.Board.{seats_up_to}
use Rattle.reserve_list.proofs.rows.all_seats.Given as goal

abbrev pub invariant-loop-index : goal.invariant-loop-index
invariant-loop-index l = l.seats ≡ seats_up_to l.outcome l.index
