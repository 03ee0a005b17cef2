use Rattle.std.proofs.Common.{sym}
use Rattle.house_model.specs.Text.{is_gap}
use Rattle.command_text.proofs.StrictLemmas.{position_found, position_missing}
use Rattle.command_text.proofs.strict.word_end.Goals as goal

pub returns-in-Some-clause-end : goal.returns-in-Some-clause-end
returns-in-Some-clause-end c = sym (position_found is_gap c.args.text.now c.in-Some.at (sym c.in-Some.ensures)).0

pub returns-in-None-clause-end : goal.returns-in-None-clause-end
returns-in-None-clause-end c = sym (position_missing is_gap c.args.text.now (sym c.in-None.ensures))
