use Rattle.intake_log.proofs.FoundLemmas.{found-stands, found-within, stands-found}
use Rattle.intake_log.proofs.journal_laws.a_start_finds_what_the_file_stands_for.Goals as goal

pub returns : goal.returns
returns c bytes lines = (λ e. (found-stands bytes lines e, found-within bytes lines e), λ both. stands-found bytes lines both.0 both.1)
