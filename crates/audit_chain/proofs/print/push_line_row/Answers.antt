use Rattle.std.proofs.Common.{◌++◌, sym, ap, ◌∙◌, append_assoc, arith}
use Rattle.hex.specs.Hex.{encode_lower}
use Rattle.audit_chain.specs.Chain.{mark_word}
use Rattle.audit_chain.specs.Printed.{digits_end, row_head, text_end}
use Rattle.audit_chain.proofs.BackLemmas.{printable_where_text}
use Rattle.audit_chain.proofs.PrintedLemmas.{digits_row_printed, text_row_printed}
use Rattle.audit_chain.proofs.print.push_line_row.Goals as goal

pub push_text_end-requires : goal.push_text_end-requires
push_text_end-requires c = printable_where_text c.args.version c.args.line.now (sym c.goes_as_text.ensures ∙ c.if-goes_as_text.true)

pub returns-then-goes_as_text : goal.returns-then-goes_as_text
returns-then-goes_as_text c =
    c.in_ok-push_text_end.ensures
    ∙ ap (λ t. t ++ text_end c.args.place c.args.line.now) c.in_ok-push_head.ensures
    ∙ append_assoc c.args.audit.now.items (row_head (mark_word c.args.mark) (encode_lower c.args.digest.now)) (text_end c.args.place c.args.line.now)
    ∙ ap (λ t. c.args.audit.now.items ++ t)
    (text_row_printed c.args.version c.args.mark c.args.digest.now c.args.place c.args.line.now c.fits-digest (sym c.goes_as_text.ensures ∙ c.if-goes_as_text.true))

pub returns : goal.returns
returns c =
    c.in_ok-push_digits_end.ensures
    ∙ ap (λ t. t ++ digits_end (encode_lower c.args.line.now) c.args.place) c.in_ok-push_head.ensures
    ∙ append_assoc c.args.audit.now.items (row_head (mark_word c.args.mark) (encode_lower c.args.digest.now)) (digits_end (encode_lower c.args.line.now) c.args.place)
    ∙ ap (λ t. c.args.audit.now.items ++ t)
    (digits_row_printed c.args.version c.args.mark c.args.digest.now c.args.place c.args.line.now c.fits-digest (λ i. omega (arith, c.type_inv.line i)) (sym c.goes_as_text.ensures ∙ c.if-goes_as_text.false))
