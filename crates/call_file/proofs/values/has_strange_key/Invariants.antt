use Rattle.std.proofs.Common.{◌≡◌}
use Rattle.std.specs.BTreeMap.{keys}
use Rattle.call_file.proofs.KeyLemmas.{any_strange}
use Rattle.call_file.proofs.values.has_strange_key.Given as goal

-- the words that were passed have a meaning
abbrev pub invariant-loop-word : goal.invariant-loop-word
invariant-loop-word l = any_strange (keys l.table) ≡ any_strange l.word-iterator
