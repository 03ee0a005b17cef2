-- The audit of a run beside the answer to it.
use Rattle.std.specs.Prelude.{◌≡◌, ◌≢◌, ◌≤◌, [], ◌∷◌, codes, length, Option, None, IfSome, IsSomeAnd, true}
use Rattle.house_base.specs.Text.{Text}
use Rattle.house_model.specs.declared.goal.Goal.TheVariants as goal
use Rattle.house_model.specs.declared.limits.TheConstants.{MOST_LINES}
use Rattle.house_model.specs.Heard.{heard}
use Rattle.house_model.specs.Report.{line_of}
use Rattle.house_model.specs.Text.{Lines}
use Rattle.house_top.specs.declared.filed.Filed.{Filed}
use Rattle.house_top.specs.declared.status.Status.TheVariants as status
use Rattle.house_top.specs.Answer.{IsEndAnswer}
use Rattle.house_top.specs.Due.{audit_of}
use Rattle.input_run.specs.declared.input.Heard.{Heard}
use Rattle.input_run.specs.declared.input.Heard.TheVariants as what
use Rattle.input_run.specs.Hearing.{HasLines}
use Rattle.input_run.specs.Kept.{keeps}

-- there is an audit just where the run came to its report
pub record IsAuditedRun (lines : Lines) (a : Filed) : Type 0 where
  pub answers : IsEndAnswer goal.Run lines a.answer.status a.answer.text.items
  pub audit : a.answer.status ≡ status.Done → IsSomeAnd a.file (λ file. file.items ≡ audit_of lines)
  pub unless_done : a.answer.status ≢ status.Done → a.file ≡ None

-- the answer to what was heard of an input by a run that keeps its lines, and its audit
abbrev pub IsAuditedHeard : Heard → Filed → Type 0
IsAuditedHeard (what.Lines run) a = (lines : Lines) → HasLines goal.Run lines run → IsAuditedRun lines a
IsAuditedHeard what.TooLong a = (a.answer.status ≡ status.TooLong)
    × (a.answer.text.items ≡ line_of (codes "too-long" ∷ [])) × (a.file ≡ None)

-- what was heard is a run that keeps its lines, no more of them than an input has, or too much
abbrev pub CanBeAudited : Heard → Type 0
CanBeAudited (what.Lines run) = ((lines : Lines) × HasLines goal.Run lines run × (length lines ≤ MOST_LINES))
CanBeAudited what.TooLong = Unit {0}

-- the lines of what was heard are kept
abbrev pub KeepsLines : Heard → Type 0
KeepsLines (what.Lines run) = keeps run ≡ true
KeepsLines what.TooLong = Unit {0}

-- what is to be stored behind an answer to an input: its audit, where the answer is its report
pub record StoresAudit (input : Option Text) (a : Filed) : Type 0 where
  pub audit : a.answer.status ≡ status.Done → IfSome input (λ input.
      IsSomeAnd a.file (λ file. file.items ≡ audit_of (heard input)))
  pub unless_done : a.answer.status ≢ status.Done → a.file ≡ None
