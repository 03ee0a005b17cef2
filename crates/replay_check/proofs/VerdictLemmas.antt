-- What follows from the comparison of a file with the audit of its lines.
use Rattle.std.proofs.Common.{◌≡◌, ℕ, List, ◌∷◌, length, Option, Some, None, Result, Ok, sym, ap, ◌∙◌, subst}
use Rattle.std.specs.Prelude.{MatchOption}
use Rattle.std.proofs.lemmas.List.{append_cancel_left}
use Rattle.audit_chain.specs.Chain.{audit_bytes}
use Rattle.audit_chain.specs.File.{AreLines, lines_held, rows, version_held}
use Rattle.audit_chain.specs.declared.fault.RowFault.{RowFault}
use Rattle.audit_chain.proofs.WrittenLemmas.{lines_read_back, version_read_back}
use Rattle.end_text.specs.declared.end.RunEnd.{RunEnd}
use Rattle.house_base.specs.Text.{Text}
use Rattle.house_base.specs.declared.answer.Took.{Took}
use Rattle.house_model.specs.LineMarks.{marks}
use Rattle.house_model.specs.Text.{Lines}
use Rattle.house_model.proofs.EndTextLemmas.{end_text-ascii, end_text-determined}
use Rattle.replay_check.specs.declared.differ.Difference.{Difference}
use Rattle.replay_check.specs.Audit.{DiffersFromAudit, IsAudit, IsAuditOf, IsVersion}
use Rattle.replay_check.specs.Check.{IsChecked}
use Rattle.replay_check.specs.Rerun.{IsRerun}
use Rattle.replay_check.specs.Rows.{IsFirstDifference}
use Rattle.replay_check.proofs.RowLemmas.{as_many_rows, is_version, same_rows}

-- lists of rows that differ are not the same
pub not_same : (kept right : List Text) (number : ℕ) (kept_row right_row : Text) → IsFirstDifference kept right number kept_row right_row → kept ≡ right → ⊥
not_same kept right number kept_row right_row d same =
    let rows_are : kept_row ∷ d.kept_behind ≡ right_row ∷ d.right_behind =
    append_cancel_left d.before (kept_row ∷ d.kept_behind) (right_row ∷ d.right_behind) (sym d.in_kept ∙ same ∙ d.in_right) in
    d.differ (let row : kept_row ≡ right_row = cc in row)

same_ok : {A : Type 0} (x y : A) (r : Result A RowFault) → r ≡ Ok x → r ≡ Ok y → x ≡ y
same_ok x y r first second = let both : Ok x ≡ Ok y = sym first ∙ second in cc

-- An audit holds the lines that it is of, and names its version, and there is one.

pub audit-lines : (version : ℕ) (lines : Lines) (bytes : Text) → IsVersion version → AreLines lines → IsAuditOf version lines bytes → lines_held bytes ≡ Ok lines
audit-lines version lines bytes known are audit =
    ap lines_held audit.written ∙ lines_read_back version lines (marks lines) known are audit.text (end_text-ascii lines audit.text audit.ends)

pub audit-version : (version : ℕ) (lines : Lines) (bytes : Text) → IsVersion version → AreLines lines → IsAuditOf version lines bytes → version_held bytes ≡ Ok version
audit-version version lines bytes known are audit =
    ap version_held audit.written ∙ version_read_back version lines (marks lines) known are audit.text (end_text-ascii lines audit.text audit.ends)

pub audit-determined : (version : ℕ) (lines : Lines) (one other : Text) → IsAuditOf version lines one → IsAuditOf version lines other → one ≡ other
audit-determined version lines one other here there =
    here.written ∙ ap (audit_bytes version lines (marks lines)) (end_text-determined lines here.text there.text here.ends there.ends) ∙ sym there.written

module _ (bytes : Text) (lines : Lines) (made : List Took) (end : RunEnd) (text : Text) (found : Option Difference) (checked : IsChecked bytes lines made end text found) where
  abbrev pub right : Text
  right = audit_bytes checked.version lines made text

  right_is : right ≡ audit_bytes checked.version lines (marks lines) text
  right_is = ap (λ ms. audit_bytes checked.version lines ms text) checked.run.marked

  -- what the lines come to is written as their audit
  pub right_audit : IsAuditOf checked.version lines right
  right_audit = record { text = text; ends = checked.run.says; written = right_is }

  -- a file that is the audit of some lines is that of those which it holds
  pub audit_is_right : IsAudit bytes → bytes ≡ right
  audit_is_right is =
      let there = audit-lines is.version is.lines bytes is.known is.are_lines is.audit in
      let named = audit-version is.version is.lines bytes is.known is.are_lines is.audit in
      let same_lines : is.lines ≡ lines = same_ok is.lines lines (lines_held bytes) there checked.held in
      let same_version : is.version ≡ checked.version = same_ok is.version checked.version (version_held bytes) named checked.named in
      let here : IsAuditOf checked.version lines bytes = subst (λ ls. IsAuditOf checked.version ls bytes) same_lines (subst (λ v. IsAuditOf v is.lines bytes) same_version is.audit) in
      audit-determined checked.version lines bytes right here right_audit

-- where nothing differs the file is an audit
pub same_is_audit : (bytes : Text) (lines : Lines) (made : List Took) (end : RunEnd) (text : Text) → IsChecked bytes lines made end text None → IsAudit bytes
same_is_audit bytes lines made end text checked = record {
  version = checked.version;
  known = is_version bytes checked.version checked.named;
  lines = lines;
  are_lines = checked.are_lines;
  audit = subst (IsAuditOf checked.version lines) (sym checked.verdict) (right_audit bytes lines made end text None checked);
}

-- and where a row does it is none
pub other_is_none : (bytes : Text) (lines : Lines) (made : List Took) (end : RunEnd) (text : Text) (d : Difference) → IsChecked bytes lines made end text (Some d) → IsAudit bytes → ⊥
other_is_none bytes lines made end text d checked is =
    not_same (rows bytes) (rows (audit_bytes checked.version lines made text)) d.number d.kept d.right checked.verdict
    (ap rows (audit_is_right bytes lines made end text (Some d) checked is))

pub other_differs : (bytes : Text) (lines : Lines) (made : List Took) (end : RunEnd) (text : Text) (d : Difference) → IsChecked bytes lines made end text (Some d) → DiffersFromAudit bytes d.number d.kept d.right
other_differs bytes lines made end text d checked = record {
  lines = lines;
  held = checked.held;
  version = checked.version;
  named = checked.named;
  audit = audit_bytes checked.version lines made text;
  is_audit = right_audit bytes lines made end text (Some d) checked;
  first = checked.verdict;
}

-- the audit of the second version of the lines
pub second_audit : (bytes : Text) (lines : Lines) (made : List Took) (end : RunEnd) (text fresh : Text) (found : Option Difference) → IsChecked bytes lines made end text found → fresh ≡ audit_bytes 2 lines made text →
    IsAuditOf 2 lines fresh
second_audit bytes lines made end text fresh found checked is =
    record { text = text; ends = checked.run.says; written = is ∙ ap (λ ms. audit_bytes 2 lines ms text) checked.run.marked }

-- what the comparison of rows says of the files
pub verdict_same : (bytes : Text) (version : ℕ) (lines : Lines) (made : List Took) (end : RunEnd) (text : Text) → lines_held bytes ≡ Ok lines → version_held bytes ≡ Ok version → AreLines lines →
    IsRerun lines made end text → (length (rows bytes) ≡ length (rows (audit_bytes version lines made text)) → rows bytes ≡ rows (audit_bytes version lines made text)) →
    bytes ≡ audit_bytes version lines made text
verdict_same bytes version lines made end text held named are run compared =
    let there : lines_held (audit_bytes version lines made text) ≡ Ok lines =
    lines_read_back version lines made (is_version bytes version named) are text (end_text-ascii lines text run.says) in
    same_rows bytes (audit_bytes version lines made text) lines lines held there (compared (as_many_rows bytes (audit_bytes version lines made text) lines held there))

-- a file beside the audit of its lines, by the comparison of their rows
pub checked_by : (found : Option Difference) (bytes right : Text) (version : ℕ) (lines : Lines) (made : List Took) (end : RunEnd) (text : Text) → lines_held bytes ≡ Ok lines → version_held bytes ≡ Ok version →
    AreLines lines → IsRerun lines made end text → right ≡ audit_bytes version lines made text →
    MatchOption found (length (rows bytes) ≡ length (rows right) → rows bytes ≡ rows right) (λ d. IsFirstDifference (rows bytes) (rows right) d.number d.kept d.right) →
    IsChecked bytes lines made end text found
checked_by None bytes made_right version lines made end text held named are run is compared = record {
  held = held;
  are_lines = are;
  version = version;
  named = named;
  run = run;
  verdict = verdict_same bytes version lines made end text held named are run
      (subst (λ t. length (rows bytes) ≡ length (rows t) → rows bytes ≡ rows t) is compared);
}
checked_by (Some d) bytes made_right version lines made end text held named are run is compared = record {
  held = held;
  are_lines = are;
  version = version;
  named = named;
  run = run;
  verdict = subst (λ t. IsFirstDifference (rows bytes) (rows t) d.number d.kept d.right) is compared;
}
