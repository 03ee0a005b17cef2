use Rattle.std.proofs.Common.{subst}
use Rattle.intake_log.specs.Scan.{Finds}
use Rattle.intake_log.proofs.FormLemmas.{scan-finds, complete}
use Rattle.intake_log.proofs.journal_laws.the_scan_agrees_with_the_form.Goals as goal

pub returns : goal.returns
returns c bytes scanned = (λ is. subst (Finds bytes) is (scan-finds bytes), complete bytes scanned)
