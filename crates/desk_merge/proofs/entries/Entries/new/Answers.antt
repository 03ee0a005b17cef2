use Rattle.std.proofs.Common.{ap, ◌∙◌}
use Rattle.desk_merge.specs.Held.{joined_in}
use Rattle.desk_merge.proofs.HeldLemmas.{nothing_held, nothing_seen}
use Rattle.desk_merge.proofs.entries.Entries.new.Goals as goal

pub invariant_of-result : goal.invariant_of-result
invariant_of-result c = rw (c.new.ensures.items, c.new-2.ensures.items) nothing_held

pub returns : goal.returns
returns c = ap joined_in c.new.ensures.items ∙ nothing_seen
