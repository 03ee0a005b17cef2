use Rattle.std.proofs.Common.{ap, sym, ◌∙◌, ◌∷◌, cond, not, bytes_eq, Some, None, refl}
use Rattle.std.specs.Prelude.{codes}
use Rattle.house_base.specs.Name.{is_name}
use Rattle.house_base.specs.declared.answer.Reason.TheVariants as reason
use Rattle.command_text.proofs.LineLemmas.{blank_without_words, blank_by_first}
use Rattle.reserve_list.proofs.LineLemmas.{form-count, form-name, form-verb, from_not, second_word, to_yes}
use Rattle.std.proofs.lemmas.Bool.{false_from_ne_true, false≢true}
use Rattle.reserve_list.proofs.line.read.Goals as goal

pub returns-in_default : goal.returns-in_default
returns-in_default c = blank_without_words _ c.in_default.ensures.none

pub returns-then-is_comment : goal.returns-then-is_comment
returns-then-is_comment c = blank_by_first _ _ _ c.in-Some.ensures.found ∙ sym c.is_comment.ensures ∙ c.if-is_comment.true

pub returns-in_default-only_word : goal.returns-in_default-only_word
returns-in_default-only_word c =
    (blank_by_first _ _ _ c.in-Some.ensures.found ∙ sym c.is_comment.ensures ∙ c.if-is_comment.false, form-count _ _ _ c.in-Some.ensures.found c.in_default-only_word.ensures.none)

pub returns-then-ne : goal.returns-then-ne
returns-then-ne c = (
  blank_by_first _ _ _ c.in-Some.ensures.found ∙ sym c.is_comment.ensures ∙ c.if-is_comment.false,
  form-verb _ _ _ c.in-Some.ensures.found (from_not (bytes_eq c.in-Some.first.now (codes "withdraw")) (ap (λ w. not (bytes_eq c.in-Some.first.now w)) (sym c.as_slice.ensures) ∙ sym c.ne.ensures ∙ c.if-ne.true)),
)

pub returns-in-Some-read : goal.returns-in-Some-read
returns-in-Some-read c =
    let two = c.in-Some.ensures.found ∙ ap (λ ws. c.in-Some.first.now ∷ ws) c.in-Some-only_word.ensures.found in
    let verb = to_yes (bytes_eq c.in-Some.first.now (codes "withdraw")) (ap (λ w. not (bytes_eq c.in-Some.first.now w)) (sym c.as_slice.ensures) ∙ sym c.ne.ensures ∙ c.if-ne.false) in (
      blank_by_first _ _ _ c.in-Some.ensures.found ∙ sym c.is_comment.ensures ∙ c.if-is_comment.false,
      form-name _ _ _ two verb ∙ ap (λ b. cond (not b) (Some reason.Name) None) (c.in-Some-read.ensures.form.0 refl),
      c.in-Some-read.ensures.value ∙ sym (second_word _ _ _ two),
    )

pub returns-in-None : goal.returns-in-None
returns-in-None c =
    let two = c.in-Some.ensures.found ∙ ap (λ ws. c.in-Some.first.now ∷ ws) c.in-Some-only_word.ensures.found in
    let verb = to_yes (bytes_eq c.in-Some.first.now (codes "withdraw")) (ap (λ w. not (bytes_eq c.in-Some.first.now w)) (sym c.as_slice.ensures) ∙ sym c.ne.ensures ∙ c.if-ne.false) in (
      blank_by_first _ _ _ c.in-Some.ensures.found ∙ sym c.is_comment.ensures ∙ c.if-is_comment.false,
      form-name _ _ _ two verb ∙ ap (λ b. cond (not b) (Some reason.Name) None) (false_from_ne_true (is_name c.in-Some-only_word.word.now) (λ yes. false≢true (c.in-None.ensures.form.1 yes))),
    )
