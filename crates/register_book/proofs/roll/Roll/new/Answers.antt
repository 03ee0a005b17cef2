use Rattle.register_book.proofs.RollLemmas.{IsRoll-empty}
use Rattle.register_book.proofs.roll.Roll.new.Goals as goal

pub invariant_of-result : goal.invariant_of-result
invariant_of-result c = IsRoll-empty _ _ _ _ _ c.new.ensures.items c.new-2.ensures c.new-3.ensures c.new-4.ensures.items c.new-5.ensures.items
