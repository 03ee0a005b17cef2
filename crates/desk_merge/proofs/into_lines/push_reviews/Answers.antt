use Rattle.std.proofs.Common.{◌++◌, ◌∷◌, [], sym, ap, ◌∙◌, append_assoc, arith, take}
use Rattle.std.proofs.lemmas.List.{take_all}
use Rattle.desk_merge.specs.Put.{review_lines}
use Rattle.desk_merge.proofs.PutLemmas.{length-review_lines, take_next}
use Rattle.desk_merge.proofs.into_lines.push_reviews.Goals as goal

pub loop-index-preserved : goal.loop-index-preserved
loop-index-preserved c =
    let reviews = review_lines c.args.entries.now in
    let review = c.review_text-review.result in
    c.in_ok-push.ensures.ok
    ∙ ap (λ ls. ls ++ c.line.result.now ∷ []) c.loop-index.invariant
    ∙ ap (λ t. (c.args.lines.now ++ take c.loop-index.index reviews) ++ t ∷ []) c.line.ensures
    ∙ append_assoc c.args.lines.now (take c.loop-index.index reviews) (review ∷ [])
    ∙ ap (λ ls. c.args.lines.now ++ ls) (sym (take_next reviews c.loop-index.index review c.review_text-review.ensures.value))

pub returns : goal.returns
returns c =
    let reviews = review_lines c.args.entries.now in
    c.loop-index.invariant ∙ ap (λ ls. c.args.lines.now ++ ls) (take_all c.loop-index.index reviews (omega (arith, length-review_lines c.args.entries.now)))
