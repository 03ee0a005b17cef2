use Rattle.std.proofs.Common.{◌≡◌, ◌++◌, take}
use Rattle.house_model.specs.Report.{applicant_lines}
use Rattle.report_text.proofs.report.push_applicant_rows.Given as goal

-- the lines of the applicants so far stand behind the old text
abbrev pub invariant-loop-row : goal.invariant-loop-row
invariant-loop-row l = l.out.items ≡ l.fn.out.items ++ applicant_lines l.den (take l.row-index l.rows)
