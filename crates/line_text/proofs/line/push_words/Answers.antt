use Rattle.std.proofs.Common.{◌≡◌, ◌<◌, ◌++◌, ◌∷◌, [], map, take, length, ap, sym, ◌∙◌, append_assoc}
use Rattle.std.specs.List.{join_with_byte}
use Rattle.std.proofs.lemmas.List.{take_all}
use Rattle.house_model.specs.Report.{line_of}
use Rattle.line_text.specs.Written.{Extends, written}
use Rattle.line_text.proofs.WrittenLemmas.{at_error, extends_by, extends_more, line_grows, next_spaced, next_first, before_next}
use Rattle.line_text.proofs.line.push_words.Goals as goal
use Rattle.line_text.proofs.line.push_words.Goals.{then-index-gt0+in_ok-push, else-index-gt0}

pub loop-index-preserved : goal.loop-index-preserved
loop-index-preserved c =
    let old = c.args.out.now.items in
    let words = c.args.words.now in
    let i = c.loop-index.index in
    let within : i < length words = c.loop-index-test.true in
    let spaced : c.if-index-gt0.out.items ≡ old ++ before_next words i =
    elim c.if-index-gt0.branch [
      | then-index-gt0+in_ok-push w ↦
          ap (λ v. v.items) w.out-is ∙ w.in_ok-push.ensures.items
          ∙ ap (λ t. t ++ 32 ∷ []) c.loop-index.invariant
          ∙ append_assoc old (join_with_byte 32 (map written (take i words))) (32 ∷ [])
          ∙ ap (λ t. old ++ t) (sym (next_spaced words i w.if-index-gt0.true))
      | else-index-gt0 w ↦
          ap (λ v. v.items) w.out-is ∙ c.loop-index.invariant ∙ ap (λ t. old ++ t) (sym (next_first words i w.if-index-gt0.false))
    ] in
    c.in_ok-push_word.ensures.ok ∙ line_grows old c.if-index-gt0.out.items words i _ within spaced

pub returns-clause-ok : goal.returns-clause-ok
unfolding line_of
returns-clause-ok c =
    let old = c.args.out.now.items in
    let words = c.args.words.now in
    let all : take c.loop-index.index words ≡ words = take_all c.loop-index.index words c.loop-index-test.false in
    c.in_ok-push-2.ensures.items
    ∙ ap (λ t. t ++ 10 ∷ []) c.loop-index.invariant
    ∙ append_assoc old (join_with_byte 32 (map written (take c.loop-index.index words))) (10 ∷ [])
    ∙ ap (λ ws. old ++ (join_with_byte 32 (map written ws) ++ 10 ∷ [])) all

pub returns-in_err-push_word-clause-err : goal.returns-in_err-push_word-clause-err
returns-in_err-push_word-clause-err c =
    let old = c.args.out.now.items in
    let words = c.args.words.now in
    let so_far = join_with_byte 32 (map written (take c.loop-index.index words)) in
    let spaced : Extends old c.if-index-gt0.out.items =
    elim c.if-index-gt0.branch [
      | then-index-gt0+in_ok-push w ↦
          extends_more old c.loop-index.out.items c.if-index-gt0.out.items (extends_by old c.loop-index.out.items so_far c.loop-index.invariant)
          (extends_by c.loop-index.out.items c.if-index-gt0.out.items (32 ∷ []) (ap (λ v. v.items) w.out-is ∙ w.in_ok-push.ensures.items))
      | else-index-gt0 w ↦ extends_by old c.if-index-gt0.out.items so_far (ap (λ v. v.items) w.out-is ∙ c.loop-index.invariant)
    ] in
    at_error c.from_residual-in_err-push_word.result _ (extends_more old c.if-index-gt0.out.items c.push_word.new.out.items spaced c.in_err-push_word.ensures.err)
