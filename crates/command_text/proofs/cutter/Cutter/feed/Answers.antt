use Rattle.std.proofs.Common.{sym, ap, ◌∙◌, subst, arith}
use Rattle.command_text.specs.Held.{HasNoFeed}
use Rattle.command_text.proofs.CuttingLemmas.{ends_line, no_feed_grows}
use Rattle.command_text.proofs.FeedLemmas.{no_feed_before}
use Rattle.command_text.proofs.cutter.Cutter.feed.Goals as goal

pub returns-in_ok-extend_from_slice-in-Some-clause-ok : goal.returns-in_ok-extend_from_slice-in-Some-clause-ok
returns-in_ok-extend_from_slice-in-Some-clause-ok c =
    ends_line _ _ _ c.self.inside.begun.items _ _ (sym c.in-Some.ensures.value) (sym (ap (λ v. v.begun) c.self.view_is))
    c.clear.ensures.items (ap (λ v. v.items) c.swap.ensures.y_after ∙ c.in_ok-extend_from_slice-in-Some.ensures.items)

pub invariant_of-self-in-Some : goal.invariant_of-self-in-Some
invariant_of-self-in-Some c = (
  subst HasNoFeed (sym c.clear.ensures.items) (λ k d l. absurd (omega (arith, l))),
  subst HasNoFeed (sym (ap (λ v. v.items) c.swap.ensures.y_after ∙ c.in_ok-extend_from_slice-in-Some.ensures.items))
      (no_feed_grows c.self.inside.begun.items _ c.self.invariant.0 (no_feed_before c.args.piece.now c.in-Some.end (sym c.in-Some.ensures.value))),
)
