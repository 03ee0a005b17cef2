use Rattle.trial_file.proofs.LineLemmas.{lines_count, lines_read}
use Rattle.trial_file.proofs.laws.trial_files_have_their_lines.Goals as goal

pub returns-clause-read : goal.returns-clause-read
returns-clause-read c = lines_read

pub returns-clause-counted : goal.returns-clause-counted
returns-clause-counted c = lines_count
