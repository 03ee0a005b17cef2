use Rattle.std.proofs.Common.{[], ◌<◌, length, sym, ap, ◌∙◌, subst, arith, Some}
use Rattle.std.specs.FinMap.{entries, len-entries}
use Rattle.house_base.proofs.Names.{length-is_name}
use Rattle.command_text.specs.Held.{HasNoFeed}
use Rattle.desk_merge.specs.Held.{item_at}
use Rattle.desk_merge.proofs.PutLemmas.{review_at, review_free, review_spelled, short_points}
use Rattle.desk_merge.proofs.entries.Entries.review_text.Goals as goal

pub of-requires-clause-reviewer : goal.of-requires-clause-reviewer
of-requires-clause-reviewer c =
    let e = item_at c.args.self.now c.args.index in
    let words = c.in-Some.ensures.found e c.line-line.ensures.formed c.line-line.ensures.value in
    omega (arith, ap length words.0, length-is_name e.0.0 c.line-line.ensures.formed.reviewer)

pub of-requires-clause-proposal : goal.of-requires-clause-proposal
of-requires-clause-proposal c =
    let e = item_at c.args.self.now c.args.index in
    let words = c.in-Some.ensures.found e c.line-line.ensures.formed c.line-line.ensures.value in
    omega (arith, ap length words.1, length-is_name e.0.1 c.line-line.ensures.formed.proposal)

pub of-requires-clause-points : goal.of-requires-clause-points
of-requires-clause-points c =
    let e = item_at c.args.self.now c.args.index in
    let words = c.in-Some.ensures.found e c.line-line.ensures.formed c.line-line.ensures.value in
    omega (arith, ap length words.2, short_points e.1.1 c.line-line.ensures.formed.points)

pub returns-clause-value : goal.returns-clause-value
returns-clause-value c =
    let m = c.args.self.now in
    let e = item_at m c.args.index in
    let words = c.in-Some.ensures.found e c.line-line.ensures.formed c.line-line.ensures.value in
    let within : c.args.index < length (entries m) = omega (arith, len-entries m, c.requires) in
    review_at m c.args.index (([], []), (0, 0)) within
    ∙ ap Some (sym (c.of.ensures ∙ review_spelled e c.in-Some.reviewer.now c.in-Some.proposal.now c.in-Some.points.now words.0 words.1 words.2))

pub returns-clause-no_line_feed : goal.returns-clause-no_line_feed
returns-clause-no_line_feed c =
    let e = item_at c.args.self.now c.args.index in
    let words = c.in-Some.ensures.found e c.line-line.ensures.formed c.line-line.ensures.value in
    subst HasNoFeed (sym (c.of.ensures ∙ review_spelled e c.in-Some.reviewer.now c.in-Some.proposal.now c.in-Some.points.now words.0 words.1 words.2)) (review_free e c.line-line.ensures.formed)
