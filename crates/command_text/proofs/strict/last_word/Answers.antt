use Rattle.std.proofs.Common.{sym, ◌∙◌}
use Rattle.command_text.proofs.StrictLemmas.{no_last_word, more_than_one}
use Rattle.command_text.proofs.strict.last_word.Goals as goal

pub returns-else-is_empty-clause-none : goal.returns-else-is_empty-clause-none
returns-else-is_empty-clause-none c =
    λ row e. more_than_one c.in-Some.word.now c.args.rest.now c.in-Some.more.now row c.in-Some.ensures.found (sym c.is_empty.ensures ∙ c.if-is_empty.false) e

pub returns-in-None-clause-none : goal.returns-in-None-clause-none
returns-in-None-clause-none c = λ row e. no_last_word c.args.rest.now row c.in-None.ensures.none e
