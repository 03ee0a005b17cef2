-- The answer of a run with a slip in place of its report.
use Rattle.std.specs.Prelude.{◌≡◌, ◌≢◌, [], ◌∷◌, codes, Option, IfSome}
use Rattle.house_base.specs.Text.{Text}
use Rattle.house_model.specs.declared.goal.Goal.TheVariants as goal
use Rattle.house_model.specs.Heard.{heard}
use Rattle.house_model.specs.Report.{line_of}
use Rattle.house_model.specs.Reviews.{profile}
use Rattle.house_model.specs.Text.{Lines}
use Rattle.house_top.specs.declared.answer.Answer.{Answer}
use Rattle.house_top.specs.declared.status.Status.TheVariants as status
use Rattle.house_top.specs.Answer.{AnswersRun, IsEndAnswer}
use Rattle.house_top.specs.Due.{run_behind}
use Rattle.input_run.specs.declared.input.Heard.{Heard}
use Rattle.input_run.specs.declared.input.Heard.TheVariants as what
use Rattle.input_run.specs.declared.line_run.LineRun.{LineRun}
use Rattle.input_run.specs.Hearing.{HasLines}
use Rattle.slip_text.specs.Told.{slip_told}

-- An answer to lines for the report, beside that of their run: the slip of a name where the run is done, and else the same.
pub record IsInPlace (name : Text) (lines : Lines) (run a : Answer) : Type 0 where
  pub answers : IsEndAnswer goal.Run lines run.status run.text.items
  pub ends : a.status ≡ run.status
  pub slip : a.status ≡ status.Done → a.text.items ≡ slip_told name (profile lines)
  pub unless_done : a.status ≢ status.Done → a.text.items ≡ run.text.items

-- an answer that tells the slip of a name in place of the report of a run
abbrev pub TellsSlip : Text → LineRun → Answer → Type 0
TellsSlip name run a = (report : Answer) × ((lines : Lines) → HasLines goal.Run lines run → IsInPlace name lines report a)

-- the same of what was heard of an input, which may be too long
abbrev pub IsSlipHeard : Text → Heard → Answer → Type 0
IsSlipHeard name (what.Lines run) a = TellsSlip name run a
IsSlipHeard name what.TooLong a = (a.status ≡ status.TooLong) × (a.text.items ≡ line_of (codes "too-long" ∷ []))

-- the same of an input
pub record AnswersSlip (name : Text) (input : Option Text) (a : Answer) : Type 0 where
  pub report : Answer
  pub answers : AnswersRun (run_behind goal.Run []) input report.status report.text.items
  pub ends : a.status ≡ report.status
  pub slip : a.status ≡ status.Done → IfSome input (λ input. a.text.items ≡ slip_told name (profile (heard input)))
  pub unless_done : a.status ≢ status.Done → a.text.items ≡ report.text.items
