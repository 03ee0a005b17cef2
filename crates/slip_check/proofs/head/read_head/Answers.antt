use Rattle.std.proofs.Common.{ap, sym, ◌∙◌}
use Rattle.house_model.specs.Said.{number}
use Rattle.slip_check.specs.Form.{before_slash, behind_slash, word_at}
use Rattle.slip_check.proofs.HeadLemmas.{four_is, head_not_four, head_off1, head_off2, head_off3, head_off4, head_on, off_form_unread}
use Rattle.slip_check.proofs.head.read_head.Goals as goal

pub returns-in_default-clause-none : goal.returns-in_default-clause-none
returns-in_default-clause-none c =
    λ before none. off_form_unread before c.args.line.now c.in_default.ensures.none

pub returns-in_default-four_words-clause-none : goal.returns-in_default-four_words-clause-none
returns-in_default-four_words-clause-none c =
    head_not_four c.args.line.now c.in-Some.text.now c.in-Some.ensures.found c.in_default-four_words.ensures.none

pub returns-then-not-is_word-clause-none : goal.returns-then-not-is_word-clause-none
returns-then-not-is_word-clause-none c =
    head_off1 c.args.line.now c.in-Some.text.now c.in-Some-four_words.slip.now c.in-Some-four_words.name.now c.in-Some-four_words.chance.now c.in-Some-four_words.share.now
    c.in-Some.ensures.found c.in-Some-four_words.ensures.found (sym c.is_word.ensures ∙ c.if-not-is_word.true)

pub returns-then-not-is_word-2-clause-none : goal.returns-then-not-is_word-2-clause-none
returns-then-not-is_word-2-clause-none c =
    head_off3 c.args.line.now c.in-Some.text.now c.in-Some-four_words.slip.now c.in-Some-four_words.name.now c.in-Some-four_words.chance.now c.in-Some-four_words.share.now
    c.in-Some.ensures.found c.in-Some-four_words.ensures.found (sym c.is_word-2.ensures ∙ c.if-not-is_word-2.true)

pub returns-in_default-read_name-clause-none : goal.returns-in_default-read_name-clause-none
returns-in_default-read_name-clause-none c =
    head_off2 c.args.line.now c.in-Some.text.now c.in-Some-four_words.slip.now c.in-Some-four_words.name.now c.in-Some-four_words.chance.now c.in-Some-four_words.share.now
    c.in-Some.ensures.found c.in-Some-four_words.ensures.found c.in_default-read_name.ensures.none

pub returns-in-None-clause-none : goal.returns-in-None-clause-none
returns-in-None-clause-none c =
    head_off4 c.args.line.now c.in-Some.text.now c.in-Some-four_words.slip.now c.in-Some-four_words.name.now c.in-Some-four_words.chance.now c.in-Some-four_words.share.now
    c.in-Some.ensures.found c.in-Some-four_words.ensures.found c.in-None.ensures.none

pub returns-in-Some-read_share-clause-form : goal.returns-in-Some-read_share-clause-form
returns-in-Some-read_share-clause-form c =
    head_on c.args.line.now c.in-Some.text.now c.in-Some-four_words.slip.now c.in-Some-four_words.name.now c.in-Some-four_words.chance.now c.in-Some-four_words.share.now
    c.in-Some.ensures.found c.in-Some-four_words.ensures.found (sym c.is_word.ensures ∙ c.if-not-is_word.false) c.in-Some-read_name.ensures.form
    (sym c.is_word-2.ensures ∙ c.if-not-is_word-2.false) c.in-Some-read_share.ensures.form

pub returns-in-Some-read_share-clause-name : goal.returns-in-Some-read_share-clause-name
returns-in-Some-read_share-clause-name c =
    c.in-Some-read_name.ensures.value ∙ sym (ap (λ said. word_at said 1) (four_is c.args.line.now c.in-Some.text.now c.in-Some-four_words.slip.now c.in-Some-four_words.name.now c.in-Some-four_words.chance.now c.in-Some-four_words.share.now c.in-Some.ensures.found c.in-Some-four_words.ensures.found))

pub returns-in-Some-read_share-clause-chance : goal.returns-in-Some-read_share-clause-chance
returns-in-Some-read_share-clause-chance c =
    c.in-Some-read_share.ensures.chance ∙ sym (ap (λ said. number (before_slash (word_at said 3))) (four_is c.args.line.now c.in-Some.text.now c.in-Some-four_words.slip.now c.in-Some-four_words.name.now c.in-Some-four_words.chance.now c.in-Some-four_words.share.now c.in-Some.ensures.found c.in-Some-four_words.ensures.found))

pub returns-in-Some-read_share-clause-den : goal.returns-in-Some-read_share-clause-den
returns-in-Some-read_share-clause-den c =
    c.in-Some-read_share.ensures.den ∙ sym (ap (λ said. number (behind_slash (word_at said 3))) (four_is c.args.line.now c.in-Some.text.now c.in-Some-four_words.slip.now c.in-Some-four_words.name.now c.in-Some-four_words.chance.now c.in-Some-four_words.share.now c.in-Some.ensures.found c.in-Some-four_words.ensures.found))
