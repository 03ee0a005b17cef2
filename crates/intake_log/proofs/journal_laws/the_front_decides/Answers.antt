use Rattle.std.proofs.Common.{arith}
use Rattle.intake_log.specs.declared.limits.TheConstants.{FRONT_BYTES}
use Rattle.intake_log.proofs.FrontLemmas.{front-scan}
use Rattle.intake_log.proofs.journal_laws.the_front_decides.Goals as goal

pub returns : goal.returns
returns c bytes = front-scan FRONT_BYTES bytes (omega arith)
