use Rattle.std.proofs.Common.{◌≡◌, get_or, take, drop}
use Rattle.disk_io.specs.Replay.{AreWithin, replayed}
use Rattle.disk_io.proofs.memory_disk.byte_at.Given as goal

abbrev pub invariant-loop-step : goal.invariant-loop-step
invariant-loop-step l =
    (l.byte ≡ get_or (replayed l.first (take l.step-index l.steps)).seen l.index 0)
    × AreWithin (replayed l.first (take l.step-index l.steps)) (drop l.step-index l.steps)
