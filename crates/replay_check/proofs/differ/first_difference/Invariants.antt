use Rattle.std.proofs.Common.{◌≡◌, ◌+◌, ◌≤◌, ◌++◌, List, length}
use Rattle.audit_chain.specs.File.{rows}
use Rattle.house_base.specs.Text.{Text}
use Rattle.replay_check.proofs.differ.first_difference.Given as goal

-- the same rows were cut off the front of both
abbrev pub invariant-loop-kept_row : goal.invariant-loop-kept_row
invariant-loop-kept_row l = record {
  before : List Text;
  in_kept : rows l.kept ≡ before ++ rows l.kept_rest;
  in_right : rows l.right ≡ before ++ rows l.right_rest;
  number_is : l.number ≡ length before + 1;
  short : l.number + length l.kept_rest ≤ length l.kept + 1;
}

abbrev pub decreases-loop-kept_row : goal.decreases-loop-kept_row
decreases-loop-kept_row l = length l.kept_rest
