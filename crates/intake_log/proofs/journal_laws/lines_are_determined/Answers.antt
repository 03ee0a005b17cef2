use Rattle.intake_log.proofs.DeterminedLemmas.{StandsFor-determined}
use Rattle.intake_log.proofs.journal_laws.lines_are_determined.Goals as goal

pub returns : goal.returns
returns c bytes lines others one other = StandsFor-determined bytes lines others one other
