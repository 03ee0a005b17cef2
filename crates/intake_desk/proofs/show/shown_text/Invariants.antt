use Rattle.std.proofs.Common.{◌≡◌, take}
use Rattle.intake_desk.specs.Intake.{shown}
use Rattle.intake_desk.proofs.show.shown_text.Given as goal

abbrev pub invariant-loop-index : goal.invariant-loop-index
invariant-loop-index l = record {
  so_far : l.text.items ≡ shown (take l.index l.lines);
}
