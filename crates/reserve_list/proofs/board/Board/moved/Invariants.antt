use Rattle.std.proofs.Common.{◌≡◌, ◌<◌, ℕ, false}
use Rattle.reserve_list.specs.Board.{gains}
use Rattle.reserve_list.proofs.board.Board.moved.Given as goal

abbrev pub invariant-loop-other : goal.invariant-loop-other
invariant-loop-other l = (k : ℕ) → k < l.other → gains l.self l.number k ≡ false
