use Rattle.std.proofs.Common.{◌≡◌, ◌++◌}
use Rattle.house_base.specs.Grid.{cell}
use Rattle.report_text.proofs.PairLineLemmas.{lines_to}
use Rattle.report_text.proofs.pairs.push_pairs.Given as goal

-- the lines of the pairs so far stand behind the old text
abbrev pub invariant-loop-distance : goal.invariant-loop-distance
invariant-loop-distance l = l.out.items ≡ l.fn.out.items ++ lines_to l.plan (cell l.pairs) l.owner l.distance
