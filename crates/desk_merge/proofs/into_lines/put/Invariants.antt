use Rattle.std.proofs.Common.{◌≡◌, ◌++◌, drop}
use Rattle.desk_merge.specs.Put.{due, put_in}
use Rattle.desk_merge.proofs.into_lines.put.Given as goal

abbrev pub invariant-loop-index : goal.invariant-loop-index
invariant-loop-index l = l.all ++ due l.waits l.entries (drop l.index l.lines) ≡ put_in l.lines l.entries
