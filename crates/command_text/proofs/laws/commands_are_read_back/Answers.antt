use Rattle.command_text.proofs.ReadBackLemmas.{reads_only_as}
use Rattle.command_text.proofs.laws.commands_are_read_back.Goals as goal

pub returns : goal.returns
returns c = reads_only_as
