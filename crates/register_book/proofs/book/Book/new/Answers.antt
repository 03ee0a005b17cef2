use Rattle.std.proofs.Common.{ap}
use Rattle.register_book.proofs.KeptLemmas.{IsBook-empty, register_of-empty}
use Rattle.register_book.proofs.book.Book.new.Goals as goal

pub invariant_of-result : goal.invariant_of-result
invariant_of-result c = IsBook-empty _ _ _ _ c.new.ensures c.new-2.ensures.placed c.new-2.ensures.clusters c.new-3.ensures c.new-4.ensures

pub returns : goal.returns
returns c = register_of-empty _ _ _ _ c.new.ensures c.new-2.ensures.placed (ap (λ q. q.pairs) c.new-4.ensures)
