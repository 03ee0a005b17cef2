use Rattle.std.proofs.Common.{◌≡◌, take, drop}
use Rattle.disk_io.specs.Replay.{replayed}
use Rattle.disk_io.proofs.memory_disk.MemoryDisk.fill.Given as goal

abbrev pub invariant-loop-offset : goal.invariant-loop-offset
invariant-loop-offset l =
    take l.offset l.buf ≡ take l.offset (drop l.at (replayed l.self-inside.first.items l.self-inside.steps.items).seen)
