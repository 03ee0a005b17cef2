use Rattle.register_book.proofs.PairLemmas.{IsPairList-empty}
use Rattle.register_book.proofs.pair_list.PairList.new.Goals as goal

pub invariant_of-result : goal.invariant_of-result
invariant_of-result c = IsPairList-empty c.new.result.items c.new-2.result c.new.ensures.items c.new-2.ensures
