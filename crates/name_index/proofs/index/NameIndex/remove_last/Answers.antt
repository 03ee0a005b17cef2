use Rattle.name_index.proofs.IndexLemmas.{IsIndex-pop, HaveHints-pop}
use Rattle.name_index.proofs.index.NameIndex.remove_last.Goals as goal

pub invariant_of-self : goal.invariant_of-self
invariant_of-self c = (
  IsIndex-pop c.self.inside.names.items c.pop.new.self.items c.in-Some.name c.self.inside.numbers c.remove.new.self c.self.invariant.0
      c.in-Some.ensures.items (λ q. c.remove.ensures.updates.0 q),
  HaveHints-pop c.self.inside.names.items c.pop.new.self.items c.in-Some.name c.self.inside.hints c.self.invariant.1 c.in-Some.ensures.items,
)
