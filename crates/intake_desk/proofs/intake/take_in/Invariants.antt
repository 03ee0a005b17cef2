use Rattle.std.proofs.Common.{◌≡◌, ◌≤◌, ◌-◌, length}
use Rattle.house_model.specs.Text.{Lines}
use Rattle.house_model.specs.declared.limits.TheConstants.{MOST_LINES}
use Rattle.intake_desk.specs.Progress.{GoesOnWith}
use Rattle.intake_desk.proofs.intake.take_in.Given as goal

abbrev pub invariant-loop-end : goal.invariant-loop-end
invariant-loop-end g l = record {
  old_is : l.old ≡ length l.initial.log.lines;
  so_far : (done : Lines) × GoesOnWith g.D.Disk.content g.D.Disk.images g.D.Disk.moment g.D.Disk.images_since
      (g.I.Source.left l.initial.input) (g.I.Source.left l.input) (g.O.Sink.given l.initial.output) (g.O.Sink.given l.output) l.initial.log l.log l.waiting done;
  input_never_fell : g.I.Source.faults l.initial.input ≤ g.I.Source.faults l.input;
  output_never_fell : g.O.Sink.faults l.initial.output ≤ g.O.Sink.faults l.output;
  disk_never_fell : g.D.Disk.faults l.initial.log.disk ≤ g.D.Disk.faults l.log.disk;
}

abbrev pub decreases-loop-end : goal.decreases-loop-end
decreases-loop-end g l = MOST_LINES - length l.log.lines
