use Rattle.std.proofs.Common.{◌≡◌, ◌<◌, ◌++◌, ◌∷◌, [], get_or, length, take, sym, ap, ◌∙◌, arith, rules, append_assoc}
use Rattle.std.proofs.lemmas.Option.{get_or_from_slice_get}
use Rattle.std.proofs.lemmas.List.{take_more}
use Rattle.intake_desk.specs.Intake.{shown}
use Rattle.intake_desk.proofs.ToldLemmas.{shown-push}
use Rattle.intake_desk.proofs.show.shown_text.Goals as goal

pub loop-index-preserved : goal.loop-index-preserved
loop-index-preserved c =
    let i = c.loop-index.index in
    let lines = c.args.lines.now in
    let below : i < length lines = omega (arith, c.loop-index-test.true, c.count-index-end.ensures) in
    let line : get_or lines i [] ≡ c.line.result.now = get_or_from_slice_get lines i c.line.result.now [] c.line.ensures.value in
    let pushed : c.push.new.self.items ≡ c.extend_from_slice.new.self.items ++ 10 ∷ [] = search rules in
    let extended : c.extend_from_slice.new.self.items ≡ c.loop-index.text.items ++ c.line.result.now = search rules in
    record {
      so_far = pushed
          ∙ ap (λ l. l ++ 10 ∷ []) (extended ∙ ap (λ l. l ++ c.line.result.now) c.loop-index.invariant.so_far)
          ∙ append_assoc (shown (take i lines)) c.line.result.now (10 ∷ [])
          ∙ sym (ap shown (take_more lines i [] below ∙ ap (λ l. take i lines ++ l ∷ []) line) ∙ shown-push (take i lines) c.line.result.now);
    }
