use Rattle.command_text.proofs.FeedLemmas.{no_feed_without_return}
use Rattle.command_text.proofs.cutter.Cutter.rest.Goals as goal

pub returns-else-is_empty-clause-no_line_feed : goal.returns-else-is_empty-clause-no_line_feed
returns-else-is_empty-clause-no_line_feed c = rw (c.without_return.ensures, c.deref.ensures.value) (no_feed_without_return _ c.self.invariant.0)
