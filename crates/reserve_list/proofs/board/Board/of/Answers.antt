use Rattle.reserve_list.proofs.BoardLemmas.{held-fresh}
use Rattle.reserve_list.proofs.board.Board.of.Goals as goal

pub invariant_of-result : goal.invariant_of-result
invariant_of-result c =
    held-fresh c.args.outcome.now c.in_ok-outcome.outcome c.in_ok-gone.gone.items c.in_ok-ranks.ranks.items c.requires c.in_ok-outcome.ensures c.in_ok-gone.ensures c.in_ok-ranks.ensures
