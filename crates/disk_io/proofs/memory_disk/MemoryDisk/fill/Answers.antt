use Rattle.std.proofs.Common.{arith}
use Rattle.disk_io.proofs.memory_disk.MemoryDisk.fill.Goals as goal

pub overflow_add-at : goal.overflow_add-at
overflow_add-at c = let there = c.requires.there in let fits = c.requires.fits in omega (arith, there, fits)
