use Rattle.std.proofs.Common.{◌++◌, ◌∷◌, [], sym, ap, ◌∙◌, append_assoc}
use Rattle.audit_chain.proofs.PrintedLemmas.{escape_other, escape_special}
use Rattle.audit_chain.proofs.print.push_character.Goals as goal

pub returns-then-is_special : goal.returns-then-is_special
returns-then-is_special c =
    c.in_ok-push-2.ensures.items
    ∙ ap (λ t. t ++ c.args.byte ∷ []) c.in_ok-push.ensures.items
    ∙ append_assoc c.args.audit.now.items (92 ∷ []) (c.args.byte ∷ [])
    ∙ ap (λ t. c.args.audit.now.items ++ t) (sym (escape_special c.args.byte (sym c.is_special.ensures ∙ c.if-is_special.true)))

pub returns : goal.returns
returns c =
    c.in_ok-push-3.ensures.items
    ∙ ap (λ t. c.args.audit.now.items ++ t) (sym (escape_other c.args.byte c.requires (sym c.is_special.ensures ∙ c.if-is_special.false)))
