use Rattle.std.proofs.Common.{sym, ◌∙◌}
use Rattle.command_text.proofs.FeedLemmas.{lines_of_none, lines_without_feed, cut_at_feed, no_feed_before, no_feed_without_return}
use Rattle.command_text.proofs.cutting.first_line.Goals as goal

pub returns-then-is_empty-clause-none : goal.returns-then-is_empty-clause-none
returns-then-is_empty-clause-none c = lines_of_none c.args.text.now (sym c.is_empty.ensures ∙ c.if-is_empty.true)

pub returns-in-Some-clause-found : goal.returns-in-Some-clause-found
returns-in-Some-clause-found c =
    rw (c.without_return.ensures, c.split_at.ensures.front, c.split_at.ensures.back) (cut_at_feed c.args.text.now c.in-Some.end (sym c.in-Some.ensures.value))

pub returns-in-None-clause-found : goal.returns-in-None-clause-found
returns-in-None-clause-found c =
    rw c.without_return-in-None.ensures (lines_without_feed c.args.text.now c.in-None.ensures.none (sym c.is_empty.ensures ∙ c.if-is_empty.false))

pub returns-in-Some-clause-no_line_feed : goal.returns-in-Some-clause-no_line_feed
returns-in-Some-clause-no_line_feed c =
    rw (c.without_return.ensures, c.split_at.ensures.front) (no_feed_without_return _ (no_feed_before c.args.text.now c.in-Some.end (sym c.in-Some.ensures.value)))

pub returns-in-None-clause-no_line_feed : goal.returns-in-None-clause-no_line_feed
returns-in-None-clause-no_line_feed c = rw c.without_return-in-None.ensures (no_feed_without_return _ c.in-None.ensures.none)
