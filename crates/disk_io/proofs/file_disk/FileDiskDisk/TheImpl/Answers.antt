use Rattle.std.proofs.Common.{refl}
use Rattle.disk_io.proofs.UntoldLemmas.{always, always_on, any_torn, stands_still}
use Rattle.disk_io.proofs.file_disk.FileDiskDisk.TheImpl.Goals as goal

pub size-tells : goal.size-tells
size-tells g c = record {
  value = always c.result _ (λ _. tt);
  same = refl;
  images = λ _ left. left;
  during = λ _ left. left;
  time = stands_still;
  failed = c.ensures.failed;
  never_falls = c.ensures.never_falls;
}

pub read-tells : goal.read-tells
read-tells g c = record {
  within = c.ensures.within;
  count = always c.result _ (λ _. tt);
  value = always c.result _ (λ _. tt);
  same = refl;
  images = λ _ left. left;
  during = λ _ left. left;
  time = stands_still;
  failed = c.ensures.failed;
  never_falls = c.ensures.never_falls;
}

pub write_at-tells : goal.write_at-tells
write_at-tells g c = record {
  told = refl;
  written = always_on c.result _ refl;
  images = λ image left. any_torn _ _ image left;
  during = λ image left. any_torn _ _ image left;
  time = stands_still;
  failed = c.ensures.failed;
  never_falls = c.ensures.never_falls;
}

pub sync-tells : goal.sync-tells
sync-tells g c = record {
  told = refl;
  same = always_on c.result _ refl;
  durable = always_on c.result _ tt;
  images = λ _ left. left;
  during = λ _ left. left;
  time = stands_still;
  failed = c.ensures.failed;
  never_falls = c.ensures.never_falls;
}
