use Rattle.std.proofs.Common.{◌≡◌, ◌++◌}
use Rattle.reserve_list.proofs.TextLemmas.{lines_below}
use Rattle.reserve_list.proofs.text.push_all.Given as goal

abbrev pub invariant-loop-number : goal.invariant-loop-number
invariant-loop-number l = l.out.items ≡ l.fn.out.items ++ lines_below l.board l.number
