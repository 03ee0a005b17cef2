use Rattle.std.proofs.Common.{◌≡◌, ◌++◌, take}
use Rattle.desk_merge.specs.Put.{review_lines}
use Rattle.desk_merge.proofs.into_lines.push_reviews.Given as goal

abbrev pub invariant-loop-index : goal.invariant-loop-index
invariant-loop-index l = l.lines ≡ l.initial.lines ++ take l.index (review_lines l.entries)
