-- The answer of a run with what becomes of a file of withdrawals behind its report.
use Rattle.std.specs.Prelude.{◌≡◌, ◌≢◌, [], ◌∷◌, codes, Option, IfSome}
use Rattle.house_base.specs.Text.{Text}
use Rattle.house_model.specs.declared.goal.Goal.TheVariants as goal
use Rattle.house_model.specs.Heard.{heard}
use Rattle.house_model.specs.Report.{line_of}
use Rattle.house_model.specs.Text.{Lines}
use Rattle.house_top.specs.declared.answer.Answer.{Answer}
use Rattle.house_top.specs.declared.status.Status.{Status}
use Rattle.house_top.specs.declared.status.Status.TheVariants as status
use Rattle.house_top.specs.Answer.{AnswersRun, IsEndAnswer}
use Rattle.house_top.specs.Due.{run_behind}
use Rattle.house_top.specs.Leaving.{IsLeaving, status_of_reserve, text_of_reserve}
use Rattle.input_run.specs.declared.input.Heard.{Heard}
use Rattle.input_run.specs.declared.input.Heard.TheVariants as what
use Rattle.input_run.specs.declared.line_run.LineRun.{LineRun}
use Rattle.input_run.specs.Hearing.{HasLines}
use Rattle.reserve_list.specs.Told.{reserve_told}

-- An answer, beside that of a run: what becomes of a file of withdrawals and these lines where the run is done, and else the
-- same.
pub record IsBehind (bytes : Text) (lines : Lines) (run a : Answer) : Type 0 where
  pub ends : run.status ≡ status.Done → a.status ≡ status_of_reserve (reserve_told bytes lines)
  pub writes : run.status ≡ status.Done → a.text.items ≡ text_of_reserve (reserve_told bytes lines)
  pub same_ends : run.status ≢ status.Done → a.status ≡ run.status
  pub same_writes : run.status ≢ status.Done → a.text.items ≡ run.text.items

-- an answer behind that of a run with these lines
abbrev pub TellsReserve : Text → LineRun → Answer → Type 0
TellsReserve bytes run a = (report : Answer) × ((lines : Lines) → HasLines goal.Run lines run →
    IsEndAnswer goal.Run lines report.status report.text.items × IsBehind bytes lines report a)

-- the same of what was heard of an input, which may be too long
abbrev pub IsReserveHeard : Text → Heard → Answer → Type 0
IsReserveHeard bytes (what.Lines run) a = TellsReserve bytes run a
IsReserveHeard bytes what.TooLong a = (a.status ≡ status.TooLong) × (a.text.items ≡ line_of (codes "too-long" ∷ []))

-- a call that tells who moves up ends so, where its run is done
abbrev pub EndsReserve : Status → Type 0
EndsReserve status.Done = Unit {0}
EndsReserve (status.BadFile why) = IsLeaving why
EndsReserve s = ⊥

-- the same of an input
pub record AnswersReserve (bytes : Text) (input : Option Text) (a : Answer) : Type 0 where
  pub report : Answer
  pub answers : AnswersRun (run_behind goal.Run []) input report.status report.text.items
  pub behind : IfSome input (λ input. IsBehind bytes (heard input) report a)
  pub done : report.status ≡ status.Done → EndsReserve a.status
  pub unless_done : report.status ≢ status.Done → a.status ≡ report.status
