use Rattle.std.proofs.Common.{◌≡◌, ◌≤◌, length}
use Rattle.house_model.specs.Isolation.{without}
use Rattle.house_model.specs.Text.{lines}
use Rattle.twin_check.proofs.agree.first_other.Given as goal

-- the lines that were passed are the person's
abbrev pub invariant-loop-line : goal.invariant-loop-line
invariant-loop-line l = record {
  passed : without l.name (lines l.text) ≡ without l.name (lines l.rest);
  fits : length l.rest ≤ length l.text;
}

abbrev pub decreases-loop-line : goal.decreases-loop-line
decreases-loop-line l = length l.rest
