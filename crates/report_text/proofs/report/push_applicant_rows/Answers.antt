use Rattle.std.proofs.Common.{◌≡◌, ◌++◌, take, get_or, sym, ap, ◌∙◌, append_assoc}
use Rattle.std.proofs.lemmas.List.{append-nil}
use Rattle.house_model.specs.Report.{line_of, applicant_words, applicant_lines}
use Rattle.house_model.specs.declared.outcome.ApplicantRow.{ApplicantRow}
use Rattle.report_text.proofs.RowLineLemmas.{applicant_lines-none, applicant_lines-more}
use Rattle.report_text.proofs.report.push_applicant_rows.Goals as goal

pub loop-row-init : goal.loop-row-init
loop-row-init c = sym (ap (λ t. c.args.out.now.items ++ t) (applicant_lines-none c.args.den c.args.rows.now) ∙ append-nil c.args.out.now.items)

pub loop-row-preserved : goal.loop-row-preserved
loop-row-preserved c =
    let old = c.args.out.now.items in
    let rows = c.args.rows.now in
    let i = c.loop-row.row-index in
    let line = λ (row : ApplicantRow). line_of (applicant_words c.args.den row) in
    let here : c.row-item.result ≡ get_or rows i c.row-item.result = c.row-item.is in
    c.in_ok-push_applicant.ensures
    ∙ (ap (λ t. t ++ line c.row-item.result) c.loop-row.invariant
    ∙ (append_assoc old (applicant_lines c.args.den (take i rows)) (line c.row-item.result)
    ∙ ap (λ t. old ++ t) (ap (λ row. applicant_lines c.args.den (take i rows) ++ line row) here
    ∙ sym (applicant_lines-more c.args.den rows i c.row-item.result c.loop-row-test.true))))
