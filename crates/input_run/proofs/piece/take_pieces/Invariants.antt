use Rattle.std.proofs.Common.{◌≡◌, ◌≤◌, ◌-◌, Option}
use Rattle.house_base.specs.Text.{Text}
use Rattle.house_model.specs.declared.goal.Goal.{Goal}
use Rattle.house_model.specs.declared.limits.TheConstants.{MOST_BYTES}
use Rattle.house_model.specs.Text.{Lines}
use Rattle.input_run.specs.Kept.{keeps}
use Rattle.input_run.specs.Piece.{HasHeardAll}
use Rattle.input_run.proofs.piece.take_pieces.Given as goal

-- what was taken so far was heard, and lines are kept as before
abbrev pub invariant-pieces : goal.invariant-pieces
invariant-pieces g l = record {
  heard : (goal : Goal) (opening : Lines) (before : Option Text) → HasHeardAll goal opening before (g.I.Source.left l.fn.input) l.fn.hearing →
      HasHeardAll goal opening before (g.I.Source.left l.input) l.hearing;
  keeps : keeps l.hearing.run ≡ keeps l.fn.hearing.run;
  never_falls : g.I.Source.faults l.fn.input ≤ g.I.Source.faults l.input;
}

abbrev pub decreases-pieces : goal.decreases-pieces
decreases-pieces g l = MOST_BYTES - l.hearing.bytes
