use Rattle.std.proofs.Common.{sym, ◌∙◌}
use Rattle.command_text.proofs.StrictLemmas.{first_word_is, no_first_word, ne_eqb}
use Rattle.command_text.proofs.strict.first_word.Goals as goal

pub returns-then-end-eq0-clause-none : goal.returns-then-end-eq0-clause-none
returns-then-end-eq0-clause-none c = no_first_word c.args.text.now (sym c.word_end-end.ensures.end ∙ c.if-end-eq0.true)

pub returns-else-end-eq0-clause-found : goal.returns-else-end-eq0-clause-found
returns-else-end-eq0-clause-found c =
    rw (c.split_at.ensures.front, c.split_at.ensures.back)
    (first_word_is c.args.text.now c.word_end-end.result (sym c.word_end-end.ensures.end) c.word_end-end.ensures.most (ne_eqb _ _ c.if-end-eq0.false))
