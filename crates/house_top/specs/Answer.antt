-- The answer of a form, and which answers a status can be.
use Rattle.std.specs.Prelude.{◌≡◌, ◌≢◌, true, false, [], ◌∷◌, codes, IsTrue, Option, Some, IfSome, Result, Ok, Err}
use Rattle.house_base.specs.Text.{Text}
use Rattle.house_model.specs.declared.goal.Goal.{Goal}
use Rattle.house_model.specs.declared.goal.Goal.TheVariants as goal
use Rattle.house_model.specs.Headline.{AreOfCall}
use Rattle.house_model.specs.Report.{line_of}
use Rattle.house_model.specs.Runs.{end_of, ends_run, taken}
use Rattle.house_model.specs.Text.{Lines}
use Rattle.house_top.specs.declared.answer.Answer.{Answer}
use Rattle.house_top.specs.declared.form.Form.{Form}
use Rattle.input_run.specs.declared.input.Heard.{Heard}
use Rattle.input_run.specs.declared.input.Heard.TheVariants as heard
use Rattle.input_run.specs.declared.fault.InputFault.{InputFault}
use Rattle.input_run.specs.declared.fault.InputFault.TheVariants as fault
use Rattle.house_top.specs.declared.status.Status.{Status}
use Rattle.house_top.specs.declared.status.Status.TheVariants as status
use Rattle.house_top.specs.Due.{IsDueText, IsRunText, IsTextOfRun, Run, due_status, is_for_report, lines_of, reported, status_of_end, status_of_run}
use Rattle.house_top.specs.Given.{Given}
use Rattle.input_run.specs.Hearing.{HasLines}
use Rattle.input_run.specs.Input.{DecidedWhereTold, EndsWhereTold, NoFurtherWhereTold, UndecidedWhereTold}

-- a call that ends so has written its text whole
abbrev pub IsWhole : Status → Type 0
IsWhole status.ReadFault = ⊥
IsWhole status.WriteFault = ⊥
IsWhole status.Memory = ⊥
IsWhole s = Unit {0}

-- a call that ends so has an answer to what its words ask for
abbrev pub IsAnswered : Status → Type 0
IsAnswered status.Usage = ⊥
IsAnswered s = IsWhole s

-- a run with an answer ends so
abbrev pub IsOfRun : Status → Type 0
IsOfRun status.Done = Unit {0}
IsOfRun (status.Refused line reason) = Unit {0}
IsOfRun status.Short = Unit {0}
IsOfRun status.TooLong = Unit {0}
IsOfRun s = ⊥

-- a call ends short, or for a fault or want of memory
abbrev pub IsShortOrFault : Status → Type 0
IsShortOrFault status.Short = Unit {0}
IsShortOrFault status.ReadFault = Unit {0}
IsShortOrFault status.WriteFault = Unit {0}
IsShortOrFault status.Memory = Unit {0}
IsShortOrFault s = ⊥

-- The status and the text that lines come to, of which none stands behind one that ends the run.
pub record IsEndAnswer (g : Goal) (lines : Lines) (s : Status) (text : Text) : Type 0 where
  pub ends : s ≡ status_of_end (Some (end_of g lines))
  pub writes : IsRunText (Some (end_of g lines)) g (taken g lines) text
  pub of_call : g ≡ goal.Run → s ≡ status.Done → AreOfCall lines

-- The answer to what was heard of an input: that of its lines, or that it is too long.
abbrev pub IsHeardAnswer : Goal → Heard → Status → Text → Type 0
IsHeardAnswer g (heard.Lines run) s text = (lines : Lines) → HasLines g lines run → IsEndAnswer g lines s text
IsHeardAnswer g heard.TooLong s text = (s ≡ status.TooLong) × (text ≡ line_of (codes "too-long" ∷ []))

-- The answer of a run with an input: the status and the text are its own, and, where its report is written, its lines are
-- those of a whole call.
pub record IsAnswerOfRun (run : Run) (input : Text) (s : Status) (text : Text) : Type 0 where
  pub ends : s ≡ status_of_run run input
  pub writes : IsTextOfRun run input text
  pub of_call : IsTrue run.reports → s ≡ status.Done → AreOfCall (lines_of run input)

-- an answer, which is that of the run where the input is told
pub record AnswersRun (run : Run) (input : Option Text) (s : Status) (text : Text) : Type 0 where
  pub answered : IsOfRun s
  pub as_run : IfSome input (λ input. IsAnswerOfRun run input s text)

-- how far an input is read in a run for a goal behind opening lines
pub record ReadsRun {I : Type 0} (left : I → Option Text) (g : Goal) (opening : Lines) (s : Status)
    (old new : I) : Type 0 where
  pub far_enough : s ≢ status.ReadFault → s ≢ status.Memory → DecidedWhereTold g opening (left old) (left new)
  pub undecided : s ≡ status.ReadFault → UndecidedWhereTold g opening (left old) (left new)
  pub no_further : NoFurtherWhereTold g opening (left old) (left new)
  pub to_end : IsTrue (is_for_report g) → s ≡ status.Done → EndsWhereTold (left old) (left new)

-- how far an input is read behind opening lines, of which one may end the run
pub record ReadsOpened {I : Type 0} (left : I → Option Text) (opening : Lines) (s : Status) (old new : I) : Type 0 where
  pub going : ends_run goal.Run opening ≡ false → ReadsRun left goal.Run opening s old new
  pub ended : ends_run goal.Run opening ≡ true → (new ≡ old) × (s ≢ status.ReadFault) × (s ≢ status.Done)

-- The status and the text are those that are due, and, where a report is, its lines are those of a whole call.
pub record IsAnswerTo (asked : Option Form) (given : Given) (s : Status) (text : Text) : Type 0 where
  pub ends : s ≡ due_status asked given
  pub writes : IsDueText asked given text
  pub of_call : s ≡ status.Done → IfSome (reported asked given) AreOfCall

-- an answer to what was asked, which is the due one where all is told that is looked at
pub record Answers (asked : Option Form) (given : Option Given) (s : Status) (text : Text) : Type 0 where
  pub answered : IsAnswered s
  pub as_due : IfSome given (λ given. IsAnswerTo asked given s text)

-- the status of an answer, or of the fault for which there is none
abbrev pub status_of_answer : Result Answer InputFault → Status
status_of_answer (Ok answer) = answer.status
status_of_answer (Err fault.Failed) = status.ReadFault
status_of_answer (Err fault.Memory) = status.Memory
