use Rattle.std.proofs.Common.{Some, refl, ap}
use Rattle.disk_io.specs.declared.step.Step.TheVariants.{Write, Sync}
use Rattle.disk_io.proofs.StepLemmas.{Keeps-from_result, outcome, seen-kept, now-kept, since-kept, time-kept, time-any, images-write, during-write, written-seen, images-sync, during-sync, synced-seen, synced-only}
use Rattle.disk_io.proofs.memory_disk.MemoryDiskDisk.TheImpl.Goals as goal

pub size-tells : goal.size-tells
size-tells c =
    let old = c.args.self.now in
    let new = c.new.self.now in
    let kept = Keeps-from_result old new c.result c.ensures.called c.ensures.called_failed in
    record {
      value = c.ensures.value;
      same = ap (λ bytes. Some bytes) (seen-kept old new kept);
      images = now-kept old new kept;
      during = since-kept old new kept;
      time = time-kept old new kept;
      failed = c.ensures.failed;
      never_falls = c.ensures.never_falls;
    }

pub read-tells : goal.read-tells
read-tells c =
    let old = c.args.self.now in
    let new = c.new.self.now in
    let kept = Keeps-from_result old new c.result c.ensures.called c.ensures.called_failed in
    record {
      within = c.ensures.within;
      count = c.ensures.count;
      value = c.ensures.value;
      same = ap (λ bytes. Some bytes) (seen-kept old new kept);
      images = now-kept old new kept;
      during = since-kept old new kept;
      time = time-kept old new kept;
      failed = c.ensures.failed;
      never_falls = c.ensures.never_falls;
    }

pub write_at-tells : goal.write_at-tells
write_at-tells c =
    let old = c.args.self.now in
    let new = c.new.self.now in
    let at = c.args.at in
    let piece = c.args.piece.now in
    let done = outcome old new (λ is_done. Write at piece is_done) c.result c.ensures.done c.ensures.torn in
    record {
      told = refl;
      written = written-seen old new at piece c.requires c.result c.ensures.done;
      images = images-write old new at piece c.requires done;
      during = during-write old new at piece c.requires done;
      time = time-any old new (λ is_done. Write at piece is_done) done;
      failed = c.ensures.failed;
      never_falls = c.ensures.never_falls;
    }

pub sync-tells : goal.sync-tells
sync-tells c =
    let old = c.args.self.now in
    let new = c.new.self.now in
    let done = outcome old new (λ is_done. Sync is_done) c.result c.ensures.done c.ensures.torn in
    record {
      told = refl;
      same = synced-seen old new c.result c.ensures.done;
      durable = synced-only old new c.result c.ensures.done;
      images = images-sync old new done;
      during = during-sync old new done;
      time = time-any old new (λ is_done. Sync is_done) done;
      failed = c.ensures.failed;
      never_falls = c.ensures.never_falls;
    }
