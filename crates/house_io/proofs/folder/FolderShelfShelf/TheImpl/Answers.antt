-- What is promised of told files holds of these, which are not told.
use Rattle.std.proofs.Common.{rules, refl}
use Rattle.house_io.proofs.Always.{IfOk-always, OnErr-always}
use Rattle.house_io.proofs.folder.FolderShelfShelf.TheImpl.Goals as goal

pub store-tells : goal.store-tells
store-tells g c =
    record {
      told = search rules;
      ready = search rules;
      stored = IfOk-always c.result _ (λ _. refl);
      others = OnErr-always c.result _ tt;
      failed = search rules;
      never_falls = search rules;
    }
