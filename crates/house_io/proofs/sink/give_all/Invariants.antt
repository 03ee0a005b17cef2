use Rattle.std.proofs.Common.{length, ◌-◌, ◌≤◌, take}
use Rattle.house_io.specs.Sink.{AppendsWhereTold}
use Rattle.house_io.proofs.sink.give_all.Given as goal

abbrev pub invariant-loop-at : goal.invariant-loop-at
invariant-loop-at g l = record {
  within : l.at ≤ length l.text;
  given_so_far : AppendsWhereTold (g.O.Sink.given l.initial.output) (g.O.Sink.given l.output) (take l.at l.text);
  never_fell : g.O.Sink.faults l.initial.output ≤ g.O.Sink.faults l.output;
}

abbrev pub decreases-loop-at : goal.decreases-loop-at
decreases-loop-at g l = length l.text - l.at
