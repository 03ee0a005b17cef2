use Rattle.std.proofs.Common.{◌+◌, sym, ap, ◌∙◌, arith}
use Rattle.std.specs.Option.{option_map}
use Rattle.std.proofs.lemmas.Grind.{common_steps}
use Rattle.command_text.proofs.FeedLemmas.{feed_behind, no_feed_behind}
use Rattle.command_text.proofs.cutting.first_line_feed.Goals as goal

pub returns-in-Some-memchr-clause-value : goal.returns-in-Some-memchr-clause-value
returns-in-Some-memchr-clause-value c =
    sym (ap (option_map (λ at. c.min-near.result + at)) c.in-Some-memchr.is)
    ∙ feed_behind c.args.text.now c.min-near.result (grind (arith, common_steps)) c.in-None.ensures.none c.memchr.result c.memchr.ensures

pub returns-in-None-memchr-clause-value : goal.returns-in-None-memchr-clause-value
returns-in-None-memchr-clause-value c =
    sym (ap (option_map (λ at. c.min-near.result + at)) c.in-None-memchr.is)
    ∙ feed_behind c.args.text.now c.min-near.result (grind (arith, common_steps)) c.in-None.ensures.none c.memchr.result c.memchr.ensures

pub returns-in-None-memchr-clause-none : goal.returns-in-None-memchr-clause-none
returns-in-None-memchr-clause-none c =
    no_feed_behind c.args.text.now c.min-near.result (grind (arith, common_steps)) c.in-None.ensures.none c.memchr.result c.memchr.ensures c.in-None-memchr.is
