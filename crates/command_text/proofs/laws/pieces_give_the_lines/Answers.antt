use Rattle.command_text.proofs.CuttingLemmas.{feeds_give_lines, feeds_give_whole_lines}
use Rattle.command_text.proofs.laws.pieces_give_the_lines.Goals as goal

pub returns-clause-whole : goal.returns-clause-whole
returns-clause-whole c = feeds_give_whole_lines

pub returns-clause-all : goal.returns-clause-all
returns-clause-all c = feeds_give_lines
