use Rattle.disk_io.proofs.StepLemmas.{IsReplayed-sync}
use Rattle.disk_io.proofs.memory_disk.MemoryDisk.keep_sync.Goals as goal

pub invariant_of-self-2 : goal.invariant_of-self-2
invariant_of-self-2 c = IsReplayed-sync _ _ _ c.args.is_done _ c.self.invariant c.in_ok-push.ensures.items
