use Rattle.std.proofs.Common.{sym, ◌∙◌}
use Rattle.command_text.proofs.FeedLemmas.{first_feed}
use Rattle.command_text.proofs.StrictLemmas.{fed_lines_of_none, fed_lines_cut, fed_lines_part, feed_is_missing}
use Rattle.command_text.proofs.strict.first_fed_line.Goals as goal

pub returns-then-is_empty-clause-none : goal.returns-then-is_empty-clause-none
returns-then-is_empty-clause-none c = fed_lines_of_none c.args.text.now (sym c.is_empty.ensures ∙ c.if-is_empty.true)

pub returns-in-Some-clause-found : goal.returns-in-Some-clause-found
returns-in-Some-clause-found c =
    rw (c.split_at.ensures.front, c.split_at.ensures.back)
    (fed_lines_cut c.args.text.now c.in-Some.at (sym (first_feed c.args.text.now c.memchr.result c.memchr.ensures) ∙ c.in-Some.is))

pub returns-in-None-clause-found : goal.returns-in-None-clause-found
returns-in-None-clause-found c =
    fed_lines_part c.args.text.now (feed_is_missing c.args.text.now c.memchr.result c.memchr.ensures c.in-None.is) (sym c.is_empty.ensures ∙ c.if-is_empty.false)
