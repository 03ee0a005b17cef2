use Rattle.command_text.proofs.OnceLemmas.{reads_once}
use Rattle.command_text.proofs.laws.lines_are_read_in_one_way.Goals as goal

pub returns : goal.returns
returns c = reads_once
