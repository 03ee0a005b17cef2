use Rattle.std.proofs.Common.{◌≡◌}
use Rattle.peer_selection.specs.Counting.{count_below}
use Rattle.reserve_list.specs.Board.{holds_on}
use Rattle.reserve_list.proofs.board.Board.holders.Given as goal

abbrev pub invariant-loop-number : goal.invariant-loop-number
invariant-loop-number l = l.holders ≡ count_below (holds_on l.self) l.number
