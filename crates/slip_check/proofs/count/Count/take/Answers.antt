use Rattle.std.proofs.Common.{◌∙◌, ◌∷◌, ap, sym}
use Rattle.house_base.proofs.AmongLemmas.{same_text}
use Rattle.slip_check.specs.Form.{goes_on}
use Rattle.slip_check.proofs.CountLemmas.{goes_on_other, line_off, line_on, on_ok}
use Rattle.slip_check.proofs.HeadLemmas.{off_form_unread}
use Rattle.slip_check.proofs.count.Count.take.Goals as goal

pub returns-in_default-clause-off : goal.returns-in_default-clause-off
returns-in_default-clause-off c =
    λ before two r e. off_form_unread before c.args.line.now c.in_default.ensures.none

pub returns-in_default-first_word-clause-off : goal.returns-in_default-first_word-clause-off
returns-in_default-first_word-clause-off c =
    λ before two r e. off_form_unread before c.args.line.now (c.in-Some.ensures.found ∙ c.in_default-first_word.ensures.none)

pub returns-then-is_word-clause-on_form : goal.returns-then-is_word-clause-on_form
returns-then-is_word-clause-on_form c =
    λ before two r. on_ok _ _ _
    (λ t. (line_on before c.args.line.now c.in-Some.text.now c.in-Some-first_word.word.now _ c.in-Some-first_word.rest.now _ two c.in-Some.ensures.found c.in-Some-first_word.ensures.found (same_text _ _ (sym c.is_word.ensures ∙ c.if-is_word.true)) t).0)
    (c.take_member.ensures.taken before r)

pub returns-then-is_word-clause-counted : goal.returns-then-is_word-clause-counted
returns-then-is_word-clause-counted c =
    λ before two r. on_ok _ _ _
    (λ t. (line_on before c.args.line.now c.in-Some.text.now c.in-Some-first_word.word.now _ c.in-Some-first_word.rest.now _ two c.in-Some.ensures.found c.in-Some-first_word.ensures.found (same_text _ _ (sym c.is_word.ensures ∙ c.if-is_word.true)) t).1)
    (c.take_member.ensures.taken before r)

pub returns-then-is_word-clause-off : goal.returns-then-is_word-clause-off
returns-then-is_word-clause-off c =
    λ before two r e. line_off before c.args.line.now c.in-Some.text.now c.in-Some-first_word.word.now c.in-Some-first_word.rest.now two c.in-Some.ensures.found c.in-Some-first_word.ensures.found
    (λ ws spells. ap (λ w. goes_on before (w ∷ ws)) (same_text _ _ (sym c.is_word.ensures ∙ c.if-is_word.true)) ∙ c.take_member.ensures.off before r e ws spells)

pub returns-then-is_word-2-clause-on_form : goal.returns-then-is_word-2-clause-on_form
returns-then-is_word-2-clause-on_form c =
    λ before two r. on_ok _ _ _
    (λ t. (line_on before c.args.line.now c.in-Some.text.now c.in-Some-first_word.word.now _ c.in-Some-first_word.rest.now _ two c.in-Some.ensures.found c.in-Some-first_word.ensures.found (same_text _ _ (sym c.is_word-else-is_word.ensures ∙ c.if-is_word-2.true)) t).0)
    (c.take_ballot.ensures.taken before r)

pub returns-then-is_word-2-clause-counted : goal.returns-then-is_word-2-clause-counted
returns-then-is_word-2-clause-counted c =
    λ before two r. on_ok _ _ _
    (λ t. (line_on before c.args.line.now c.in-Some.text.now c.in-Some-first_word.word.now _ c.in-Some-first_word.rest.now _ two c.in-Some.ensures.found c.in-Some-first_word.ensures.found (same_text _ _ (sym c.is_word-else-is_word.ensures ∙ c.if-is_word-2.true)) t).1)
    (c.take_ballot.ensures.taken before r)

pub returns-then-is_word-2-clause-off : goal.returns-then-is_word-2-clause-off
returns-then-is_word-2-clause-off c =
    λ before two r e. line_off before c.args.line.now c.in-Some.text.now c.in-Some-first_word.word.now c.in-Some-first_word.rest.now two c.in-Some.ensures.found c.in-Some-first_word.ensures.found
    (λ ws spells. ap (λ w. goes_on before (w ∷ ws)) (same_text _ _ (sym c.is_word-else-is_word.ensures ∙ c.if-is_word-2.true)) ∙ c.take_ballot.ensures.off before r e ws spells)

pub returns-else-is_word-2-clause-off : goal.returns-else-is_word-2-clause-off
returns-else-is_word-2-clause-off c =
    λ before two r e. line_off before c.args.line.now c.in-Some.text.now c.in-Some-first_word.word.now c.in-Some-first_word.rest.now two c.in-Some.ensures.found c.in-Some-first_word.ensures.found
    (λ ws spells. goes_on_other before c.in-Some-first_word.word.now ws (sym c.is_word.ensures ∙ c.if-is_word.false) (sym c.is_word-else-is_word.ensures ∙ c.if-is_word-2.false))
