use Rattle.std.proofs.Common.{sym, ap, ◌∙◌}
use Rattle.command_text.proofs.CuttingLemmas.{nothing_begun, whole_line_is}
use Rattle.command_text.proofs.FeedLemmas.{no_feed_before, no_feed_without_return}
use Rattle.command_text.proofs.cutter.Cutter.whole_line.Goals as goal

pub returns-in-Some-clause-found : goal.returns-in-Some-clause-found
returns-in-Some-clause-found c =
    whole_line_is _ _ _ _ (nothing_begun _ c.self.inside.begun.items (sym (ap (λ v. v.begun) c.self.view_is)) (rw c.self.inside.begun.ok.0 at (sym c.is_empty.ensures ∙ c.if-not-is_empty.false))) (sym c.in-Some.ensures.value) c.without_return.ensures

pub returns-in-Some-clause-no_line_feed : goal.returns-in-Some-clause-no_line_feed
returns-in-Some-clause-no_line_feed c =
    rw c.without_return.ensures (no_feed_without_return _ (no_feed_before c.args.piece.now c.in-Some.end (sym c.in-Some.ensures.value)))
