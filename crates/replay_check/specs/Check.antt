-- An audit beside what its lines come to.
use Rattle.std.specs.Prelude.{◌≡◌, ℕ, List, Option, Ok, MatchOption}
use Rattle.audit_chain.specs.Chain.{audit_bytes}
use Rattle.audit_chain.specs.File.{AreLines, lines_held, rows, version_held}
use Rattle.end_text.specs.declared.end.RunEnd.{RunEnd}
use Rattle.house_base.specs.Text.{Text}
use Rattle.house_base.specs.declared.answer.Took.{Took}
use Rattle.house_model.specs.Text.{Lines}
use Rattle.replay_check.specs.declared.differ.Difference.{Difference}
use Rattle.replay_check.specs.Rerun.{IsRerun}
use Rattle.replay_check.specs.Rows.{IsFirstDifference}

-- A file holds these lines, which come to these marks, this end and this text, and it is their audit of the version that
-- it names, but for what differs.
pub record IsChecked (bytes : Text) (lines : Lines) (marks : List Took) (end : RunEnd) (text : Text)
    (found : Option Difference) : Type 0 where
  pub held : lines_held bytes ≡ Ok lines
  pub are_lines : AreLines lines
  pub version : ℕ
  pub named : version_held bytes ≡ Ok version
  pub run : IsRerun lines marks end text
  pub verdict : MatchOption found (bytes ≡ audit_bytes version lines marks text)
      (λ d. IsFirstDifference (rows bytes) (rows (audit_bytes version lines marks text)) d.number d.kept d.right)
