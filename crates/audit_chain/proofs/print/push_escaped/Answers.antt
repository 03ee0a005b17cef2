use Rattle.std.proofs.Common.{◌++◌, get_or, sym, ap, ◌∙◌, append_assoc, take}
use Rattle.json.specs.Print.{escape, escape_byte}
use Rattle.audit_chain.proofs.PrintedLemmas.{escape_more, printable_low}
use Rattle.audit_chain.proofs.print.push_escaped.Goals as goal

pub push_character-requires : goal.push_character-requires
push_character-requires c = printable_low c.args.text.now c.loop-byte.byte-index c.loop-byte-test.true c.requires

pub loop-byte-preserved : goal.loop-byte-preserved
loop-byte-preserved c =
    let i = c.loop-byte.byte-index in
    c.in_ok-push_character.ensures
    ∙ ap (λ t. t ++ escape_byte (get_or c.args.text.now i 0)) c.loop-byte.invariant
    ∙ append_assoc c.args.audit.now.items (escape (take i c.args.text.now)) (escape_byte (get_or c.args.text.now i 0))
    ∙ ap (λ t. c.args.audit.now.items ++ t) (sym (escape_more c.args.text.now i c.loop-byte-test.true))
