use Rattle.std.proofs.Common.{◌++◌, ap, ◌∙◌}
use Rattle.std.specs.Prelude.{flat_map, length}
use Rattle.audit_chain.specs.Chain.{header_row, line_rows, report_row, row_text}
use Rattle.audit_chain.proofs.ChainLemmas.{audit_from_rows}
use Rattle.audit_chain.proofs.text.audit_of.Goals as goal

pub returns : goal.returns
returns c =
    let header = c.in_ok-push_header.ensures ∙ ap (λ t. t ++ row_text (header_row c.args.version)) c.new-audit.ensures.items in
    let lines = c.in_ok-push_lines.ensures ∙ ap (λ t. t ++ flat_map row_text (line_rows c.args.version c.args.lines.now c.args.marks.now (length c.args.lines.now))) header in
    c.in_ok-push_report.ensures
    ∙ ap (λ t. t ++ row_text (report_row c.args.text.now)) lines
    ∙ audit_from_rows c.args.version c.args.lines.now c.args.marks.now c.args.text.now
