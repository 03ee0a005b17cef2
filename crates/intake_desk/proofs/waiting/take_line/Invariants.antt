use Rattle.std.proofs.Common.{◌≡◌, ◌≤◌, ◌-◌, length}
use Rattle.intake_desk.specs.Input.{uncut}
use Rattle.intake_desk.specs.declared.waiting.TheConstants.{MOST_WAITING}
use Rattle.intake_desk.proofs.waiting.take_line.Given as goal

abbrev pub invariant-loop-end : goal.invariant-loop-end
invariant-loop-end g l = record {
  uncut : uncut l.waiting (g.I.Source.left l.input) ≡ uncut l.initial.waiting (g.I.Source.left l.initial.input);
  never_fell : g.I.Source.faults l.initial.input ≤ g.I.Source.faults l.input;
}

abbrev pub decreases-loop-end : goal.decreases-loop-end
decreases-loop-end g l = MOST_WAITING - length l.waiting
