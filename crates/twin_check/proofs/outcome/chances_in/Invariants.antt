use Rattle.std.proofs.Common.{◌≡◌, take}
use Rattle.twin_check.specs.Half.{chances_of}
use Rattle.twin_check.specs.Rows.{chances_in}
use Rattle.twin_check.proofs.outcome.chances_in.Given as goal

-- the chances so far are those of the rows so far
abbrev pub invariant-loop-row : goal.invariant-loop-row
invariant-loop-row l = l.chances ≡ chances_of (chances_in l.name (take l.row-index l.rows))
