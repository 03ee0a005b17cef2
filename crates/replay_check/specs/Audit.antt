-- The audit of a list of lines.
use Rattle.std.specs.Prelude.{◌≡◌, ◌⊎◌, ℕ, Ok}
use Rattle.house_base.specs.Text.{Text}
use Rattle.house_model.specs.EndTexts.{IsEndText}
use Rattle.house_model.specs.LineMarks.{marks}
use Rattle.house_model.specs.Text.{Lines}
use Rattle.audit_chain.specs.Chain.{audit_bytes}
use Rattle.audit_chain.specs.File.{AreLines, lines_held, rows, version_held}
use Rattle.replay_check.specs.Rows.{IsFirstDifference}

-- A file is the audit of a version of these lines: with what becomes of each, and the text with which they end.
pub record IsAuditOf (version : ℕ) (lines : Lines) (bytes : Text) : Type 0 where
  pub text : Text
  pub ends : IsEndText lines text
  pub written : bytes ≡ audit_bytes version lines (marks lines) text

-- a version that there is
abbrev pub IsVersion : ℕ → Type 0
IsVersion version = (version ≡ 1) ⊎ (version ≡ 2)

-- A file is the audit, of either version, of some list of lines.
pub record IsAudit (bytes : Text) : Type 0 where
  pub version : ℕ
  pub known : IsVersion version
  pub lines : Lines
  pub are_lines : AreLines lines
  pub audit : IsAuditOf version lines bytes

-- A file first differs in this row from the audit of the lines that it holds, of the version that it names.
pub record DiffersFromAudit (bytes : Text) (number : ℕ) (kept right : Text) : Type 0 where
  pub lines : Lines
  pub held : lines_held bytes ≡ Ok lines
  pub version : ℕ
  pub named : version_held bytes ≡ Ok version
  pub audit : Text
  pub is_audit : IsAuditOf version lines audit
  pub first : IsFirstDifference (rows bytes) (rows audit) number kept right
