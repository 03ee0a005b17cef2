use Rattle.std.proofs.Common.{◌≡◌, ◌∷◌, false, bytes_eq, sym, ap, ◌∙◌}
use Rattle.std.proofs.lemmas.Bool.{false≢true, not-false, not-true}
use Rattle.house_base.proofs.AmongLemmas.{bytes_eq-same, same_text}
use Rattle.twin_check.proofs.AgreeLemmas.{by_no_words, by_one_word, by_other_word, by_second}
use Rattle.twin_check.proofs.agree.is_by.Goals as goal

pub returns-in_default : goal.returns-in_default
returns-in_default c = sym (by_no_words c.args.name c.args.line.now c.in_default.ensures.none)

pub returns-then-ne : goal.returns-then-ne
returns-then-ne c =
    let first = c.in-Some.first.now in
    let differs : bytes_eq first c.as_slice.result.now ≡ false = not-true _ (sym c.ne.ensures ∙ c.if-ne.true) in
    sym (by_other_word c.args.name c.args.line.now first _ c.in-Some.ensures.found
    (λ same. false≢true (sym differs ∙ bytes_eq-same first c.as_slice.result.now (same ∙ sym c.as_slice.ensures))))

pub returns-in-Some-next_word : goal.returns-in-Some-next_word
returns-in-Some-next_word c =
    let first = c.in-Some.first.now in
    let second = c.in-Some-next_word.second.now in
    let review = same_text first c.as_slice.result.now (not-false _ (sym c.ne.ensures ∙ c.if-ne.false)) ∙ c.as_slice.ensures in
    c.eq.ensures
    ∙ ap (bytes_eq second) c.bytes-own.ensures.value
    ∙ sym (by_second c.args.name c.args.line.now first second _ (c.in-Some.ensures.found ∙ ap (λ ws. first ∷ ws) c.in-Some-next_word.ensures.found) review)

pub returns-in-None : goal.returns-in-None
returns-in-None c =
    let first = c.in-Some.first.now in
    sym (by_one_word c.args.name c.args.line.now first (c.in-Some.ensures.found ∙ ap (λ ws. first ∷ ws) c.in-None.ensures.none) c.bytes-own.ensures.form)
