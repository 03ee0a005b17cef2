use Rattle.std.proofs.Common.{ap, sym, ◌∙◌}
use Rattle.std.specs.Str.{bytes_eq}
use Rattle.command_text.proofs.ArgumentLemmas.{command_by_words, fault_is, review_by_words}
use Rattle.command_text.proofs.LineLemmas.{blank_without_words, blank_by_first, review_by_first, verb_by_first}
use Rattle.command_text.proofs.read.read_line.Goals as goal

pub returns-in_default : goal.returns-in_default
returns-in_default c = blank_without_words _ c.in_default.ensures.none

pub returns-then-is_comment : goal.returns-then-is_comment
returns-then-is_comment c = blank_by_first _ _ _ c.in-Some.ensures.found ∙ sym c.is_comment.ensures ∙ c.if-is_comment.true

pub returns-then-eq : goal.returns-then-eq
returns-then-eq c =
    let found = c.in-Some.ensures.found in (
      blank_by_first _ _ _ found ∙ sym c.is_comment.ensures ∙ c.if-is_comment.false,
      review_by_first _ _ _ found ∙ ap (bytes_eq c.in-Some.first.now) (sym c.as_slice.ensures) ∙ sym c.eq.ensures ∙ c.if-eq.true,
      review_by_words _ _ _ _ found c.read_review.ensures.whole c.read_review.ensures.reviewer c.read_review.ensures.proposal c.read_review.ensures.points,
    )

pub returns-in-Ok : goal.returns-in-Ok
returns-in-Ok c =
    let found = c.in-Some.ensures.found in
    command_by_words _ _ _ _ _ found (verb_by_first _ _ _ found ∙ sym c.verb_of-verb.ensures)
    (blank_by_first _ _ _ found ∙ sym c.is_comment.ensures ∙ c.if-is_comment.false)
    (review_by_first _ _ _ found ∙ ap (bytes_eq c.in-Some.first.now) (sym c.as_slice.ensures) ∙ sym c.eq.ensures ∙ c.if-eq.false)
    c.in-Ok.ensures

pub returns-in-Err : goal.returns-in-Err
returns-in-Err c =
    let found = c.in-Some.ensures.found in
    fault_is _ _ _ _ _ found (verb_by_first _ _ _ found ∙ sym c.verb_of-verb.ensures)
    (blank_by_first _ _ _ found ∙ sym c.is_comment.ensures ∙ c.if-is_comment.false)
    (review_by_first _ _ _ found ∙ ap (bytes_eq c.in-Some.first.now) (sym c.as_slice.ensures) ∙ sym c.eq.ensures ∙ c.if-eq.false)
    c.in-Err.ensures
