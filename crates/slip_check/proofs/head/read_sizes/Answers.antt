use Rattle.std.proofs.Common.{eq-eqb, ap, sym, ◌*◌, ◌∙◌}
use Rattle.house_model.specs.Said.{number}
use Rattle.slip_check.specs.Form.{word_at}
use Rattle.slip_check.proofs.HeadLemmas.{four_is, off_form_unread, sizes_not_four, sizes_off1, sizes_off2, sizes_off3, sizes_off4, sizes_off5, sizes_on}
use Rattle.command_text.proofs.StrictLemmas.{ne_eqb}
use Rattle.slip_check.proofs.head.read_sizes.Goals as goal

pub returns-in_default-clause-none : goal.returns-in_default-clause-none
returns-in_default-clause-none c =
    λ before one same. off_form_unread before c.args.line.now c.in_default.ensures.none

pub returns-in_default-four_words-clause-none : goal.returns-in_default-four_words-clause-none
returns-in_default-four_words-clause-none c =
    λ before one same. sizes_not_four c.args.line.now c.in-Some.text.now c.in-Some.ensures.found c.in_default-four_words.ensures.none before one

pub returns-then-not-is_word-clause-none : goal.returns-then-not-is_word-clause-none
returns-then-not-is_word-clause-none c =
    sizes_off1 c.args.line.now c.in-Some.text.now c.in-Some-four_words.seats.now c.in-Some-four_words.number.now c.in-Some-four_words.persons.now c.in-Some-four_words.count.now c.args.den
    c.in-Some.ensures.found c.in-Some-four_words.ensures.found (sym c.is_word.ensures ∙ c.if-not-is_word.true)

pub returns-then-not-is_word-2-clause-none : goal.returns-then-not-is_word-2-clause-none
returns-then-not-is_word-2-clause-none c =
    sizes_off3 c.args.line.now c.in-Some.text.now c.in-Some-four_words.seats.now c.in-Some-four_words.number.now c.in-Some-four_words.persons.now c.in-Some-four_words.count.now c.args.den
    c.in-Some.ensures.found c.in-Some-four_words.ensures.found (sym c.is_word-2.ensures ∙ c.if-not-is_word-2.true)

pub returns-in_default-read_within-clause-none : goal.returns-in_default-read_within-clause-none
returns-in_default-read_within-clause-none c =
    sizes_off2 c.args.line.now c.in-Some.text.now c.in-Some-four_words.seats.now c.in-Some-four_words.number.now c.in-Some-four_words.persons.now c.in-Some-four_words.count.now c.args.den
    c.in-Some.ensures.found c.in-Some-four_words.ensures.found c.in_default-read_within.ensures.none

pub returns-in_default-read_within-2-clause-none : goal.returns-in_default-read_within-2-clause-none
returns-in_default-read_within-2-clause-none c =
    sizes_off4 c.args.line.now c.in-Some.text.now c.in-Some-four_words.seats.now c.in-Some-four_words.number.now c.in-Some-four_words.persons.now c.in-Some-four_words.count.now c.args.den
    c.in-Some.ensures.found c.in-Some-four_words.ensures.found c.in_default-read_within-2.ensures.none

pub returns-then-den-from-clause-form : goal.returns-then-den-from-clause-form
returns-then-den-from-clause-form c =
    sizes_on c.args.line.now c.in-Some.text.now c.in-Some-four_words.seats.now c.in-Some-four_words.number.now c.in-Some-four_words.persons.now c.in-Some-four_words.count.now c.args.den
    c.in-Some.ensures.found c.in-Some-four_words.ensures.found (sym c.is_word.ensures ∙ c.if-not-is_word.false) c.in-Some-read_within.ensures.form
    (sym c.is_word-2.ensures ∙ c.if-not-is_word-2.false) c.in-Some-read_within-2.ensures.form
    (eq-eqb _ _ (c.if-den-from.true ∙ (ap (λ n. n * c.from-2.result) (c.from.ensures ∙ c.in-Some-read_within-2.ensures.value) ∙ ap (λ d. number c.in-Some-four_words.count.now * d) c.from-2.ensures)))

pub returns-else-den-from-clause-none : goal.returns-else-den-from-clause-none
returns-else-den-from-clause-none c =
    sizes_off5 c.args.line.now c.in-Some.text.now c.in-Some-four_words.seats.now c.in-Some-four_words.number.now c.in-Some-four_words.persons.now c.in-Some-four_words.count.now c.args.den
    c.in-Some.ensures.found c.in-Some-four_words.ensures.found (ne_eqb _ _ (λ e. c.if-den-from.false (e ∙ sym (ap (λ n. n * c.from-2.result) (c.from.ensures ∙ c.in-Some-read_within-2.ensures.value) ∙ ap (λ d. number c.in-Some-four_words.count.now * d) c.from-2.ensures))))

pub returns-then-den-from-clause-seats : goal.returns-then-den-from-clause-seats
returns-then-den-from-clause-seats c =
    c.in-Some-read_within.ensures.value ∙ sym (ap (λ said. number (word_at said 1)) (four_is c.args.line.now c.in-Some.text.now c.in-Some-four_words.seats.now c.in-Some-four_words.number.now c.in-Some-four_words.persons.now c.in-Some-four_words.count.now c.in-Some.ensures.found c.in-Some-four_words.ensures.found))

pub returns-then-den-from-clause-persons : goal.returns-then-den-from-clause-persons
returns-then-den-from-clause-persons c =
    c.in-Some-read_within-2.ensures.value ∙ sym (ap (λ said. number (word_at said 3)) (four_is c.args.line.now c.in-Some.text.now c.in-Some-four_words.seats.now c.in-Some-four_words.number.now c.in-Some-four_words.persons.now c.in-Some-four_words.count.now c.in-Some.ensures.found c.in-Some-four_words.ensures.found))
