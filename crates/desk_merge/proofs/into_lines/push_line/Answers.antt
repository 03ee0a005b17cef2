use Rattle.std.proofs.Common.{◌≡◌, ◌++◌, ◌∷◌, [], true, false, sym, ap, ◌∙◌, append_assoc}
use Rattle.std.proofs.lemmas.Bool.{true≢false}
use Rattle.desk_merge.specs.Put.{due, is_close, review_lines}
use Rattle.desk_merge.proofs.PutLemmas.{due_at_close, due_goes_on}
use Rattle.desk_merge.proofs.into_lines.push_line.Goals as goal
use Rattle.desk_merge.proofs.into_lines.push_line.Goals.{else-waits-via-then-waits+else-is_close, else-waits-via-else-waits}

pub returns-then-is_close : goal.returns-then-is_close
returns-then-is_close c =
    let reviews = review_lines c.args.entries.now in
    λ rest.
    ap (λ ls. ls ++ rest) c.in_ok-push_close.ensures
    ∙ append_assoc (c.args.all.now ++ reviews) (c.args.line.now ∷ []) rest
    ∙ append_assoc c.args.all.now reviews (c.args.line.now ∷ rest)
    ∙ ap (λ ls. c.args.all.now ++ ls) (sym (due_at_close c.args.waits c.args.entries.now c.args.line.now rest c.if-waits.true (sym c.is_close.ensures ∙ c.if-is_close.true)))

pub returns : goal.returns
returns c =
    let stays : c.args.waits ≡ true → is_close c.args.line.now ≡ false =
    λ waits. elim c.else-waits.branch [
      | else-waits-via-then-waits+else-is_close w ↦ sym w.is_close.ensures ∙ w.if-is_close.false
      | else-waits-via-else-waits w ↦ absurd (true≢false (sym waits ∙ w.if-waits.false))
    ] in
    λ rest.
    ap (λ ls. ls ++ due c.args.waits c.args.entries.now rest) c.in_ok-push.ensures.ok
    ∙ append_assoc c.args.all.now (c.args.line.now ∷ []) (due c.args.waits c.args.entries.now rest)
    ∙ ap (λ ls. c.args.all.now ++ ls) (sym (due_goes_on c.args.waits c.args.entries.now c.args.line.now rest stays))
