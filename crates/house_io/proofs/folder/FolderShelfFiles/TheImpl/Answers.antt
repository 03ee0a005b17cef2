-- What is promised of told files holds of these, which are not told.
use Rattle.std.proofs.Common.{rules}
use Rattle.house_io.proofs.Always.{IfOk-always}
use Rattle.house_io.proofs.folder.FolderShelfFiles.TheImpl.Goals as goal

pub load-tells : goal.load-tells
load-tells g c =
    record {
      unchanged = search rules;
      ready = search rules;
      content = IfOk-always c.result _ (λ _. tt);
      short = search rules;
      absent = search rules;
      failed = search rules;
      long = search rules;
      never_falls = search rules;
    }
