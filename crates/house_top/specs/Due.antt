-- What is due of a call of the program: its status, its text, and the lines that it runs.
use Rattle.std.specs.Prelude.{◌≡◌, Bool, true, false, not, Option, Some, None, Result, Ok, Err, [], ◌∷◌, ◌++◌, codes, option_and_then, if◌then◌else◌}
use Rattle.std.specs.Result.{result_ok}
use Rattle.std.specs.Option.{option_map}
use Rattle.audit_chain.specs.Chain.{audit_bytes}
use Rattle.house_base.specs.Text.{Text}
use Rattle.house_model.specs.declared.goal.Goal.{Goal}
use Rattle.house_model.specs.declared.goal.Goal.TheVariants as goal
use Rattle.house_model.specs.Ending.{Ended}
use Rattle.house_model.specs.EndTexts.{IsTextOfEnd}
use Rattle.house_model.specs.Heard.{heard}
use Rattle.house_model.specs.LineMarks.{marks}
use Rattle.house_model.specs.Outcome.{outcome}
use Rattle.house_model.specs.Report.{line_of}
use Rattle.house_model.specs.Reviews.{profile}
use Rattle.house_model.specs.Runs.{end_of, ends_run, report_of, taken}
use Rattle.house_model.specs.Text.{Lines}
use Rattle.house_top.specs.declared.document.Document.TheVariants as document
use Rattle.house_top.specs.declared.form.Form.{Form}
use Rattle.house_top.specs.declared.form.Form.TheVariants as form
use Rattle.house_top.specs.declared.status.Status.{Status}
use Rattle.house_top.specs.declared.status.Status.TheVariants as status
use Rattle.house_top.specs.Desks.{joined}
use Rattle.house_top.specs.Given.{Given}
use Rattle.house_top.specs.Judged.{file_judged, judged}
use Rattle.house_top.specs.Leaving.{status_of_reserve, text_of_reserve}
use Rattle.house_top.specs.Opening.{file_at, loaded, opening_of}
use Rattle.house_top.specs.Refused.{text_without_run}
use Rattle.reserve_list.specs.Told.{reserve_told}
use Rattle.slip_text.specs.Told.{slip_told}

-- the status of a run that ends so; a run without an end is that of an input that is too long
abbrev pub status_of_end : Option Ended → Status
status_of_end (Some Ended.Done) = status.Done
status_of_end (Some Ended.Settled) = status.Done
status_of_end (Some (Ended.Refused line reason)) = status.Refused line reason
status_of_end (Some Ended.Short) = status.Short
status_of_end None = status.TooLong

-- the text of a run for a goal that ends so with the lines taken
abbrev pub IsRunText : Option Ended → Goal → Lines → Text → Type 0
IsRunText (Some end) g lines text = IsTextOfEnd end g lines text
IsRunText None g lines text = text ≡ line_of (codes "too-long" ∷ [])

-- A run that a call makes: for which goal, the lines that it takes first, whether it then hears the input, and whether
-- it is for its report.
pub record Run : Type 0 where
  pub goal : Goal
  pub opening : Lines
  pub hears : Bool
  pub reports : Bool

-- whether a run for a goal is for its report
abbrev pub is_for_report : Goal → Bool
is_for_report goal.Run = true
is_for_report goal.Pairs = false
is_for_report goal.Feasible = false

-- the run for a goal of an input behind opening lines
abbrev pub run_behind : Goal → Lines → Run
run_behind g opening = record { goal = g; opening = opening; hears = true; reports = is_for_report g }

-- the run of opening lines for the report, and of an input behind them where none of them ends it
abbrev pub opened_run : Lines → Run
opened_run opening =
    record { goal = goal.Run; opening = opening; hears = not (ends_run goal.Run opening); reports = true }

-- the run that is asked for; nothing where none is
abbrev pub run_asked : Option Form → Given → Option Run
run_asked None given = None
run_asked (Some (form.Input g)) given = Some (run_behind g [])
run_asked (Some form.Audit) given = Some (run_behind goal.Run [])
run_asked (Some (form.Slip name)) given = Some (run_behind goal.Run [])
run_asked (Some form.Opened) given = option_map opened_run (result_ok (opening_of given.files))
run_asked (Some (form.Judged document)) given = None
run_asked (Some form.Join) given = None
run_asked (Some form.Reserve) given = option_map (λ bytes. run_behind goal.Run []) (result_ok (loaded (file_at given.files 0)))

-- the lines of a run, with what it hears of an input
abbrev pub lines_of : Run → Text → Lines
lines_of run input = if run.hears then run.opening ++ heard input else run.opening

-- how a run ends with an input; nothing where the input is too long
abbrev pub end_of_run : Run → Text → Option Ended
end_of_run run input =
    if run.hears then outcome run.goal run.opening input else Some (end_of run.goal run.opening)

-- the lines that are run, and for which goal
abbrev pub run_of : Option Form → Given → Option (Goal × Lines)
run_of asked given = option_map (λ run. (run.goal, lines_of run given.input)) (run_asked asked given)

-- the lines that are run for their report
abbrev pub reported : Option Form → Given → Option Lines
reported asked given =
    option_and_then (λ run. if run.reports then Some (lines_of run given.input) else None) (run_asked asked given)

-- the lines whose report is all that is written: not where a slip is told in its place, or more behind it
abbrev pub printed : Option Form → Given → Option Lines
printed (Some (form.Slip name)) given = None
printed (Some form.Reserve) given = None
printed asked given = reported asked given

-- the slip that is asked for: the name, and the lines that are run
abbrev pub slip_asked : Option Form → Given → Option (Text × Lines)
slip_asked (Some (form.Slip name)) given = Some (name, heard given.input)
slip_asked asked given = None

-- the file of withdrawals behind a report: its bytes, and the lines that are run
abbrev pub leaving_asked : Option Form → Given → Option (Text × Lines)
leaving_asked (Some form.Reserve) given = option_map (λ bytes. (bytes, heard given.input)) (result_ok (loaded (file_at given.files 0)))
leaving_asked asked given = None

-- the slip that is judged
abbrev pub slip_judged : Option Form → Given → Option Text
slip_judged (Some (form.Judged document.Slip)) given = file_at given.files 0
slip_judged asked given = None

-- the goal for which an input is heard, and the lines that were taken before it
abbrev pub hears : Option Form → Given → Option (Goal × Lines)
hears asked given =
    option_and_then (λ run. if run.hears then Some (run.goal, run.opening) else None) (run_asked asked given)

-- the status of a run, and its text
abbrev pub status_of_run : Run → Text → Status
status_of_run run input = status_of_end (end_of_run run input)

abbrev pub IsTextOfRun : Run → Text → Text → Type 0
IsTextOfRun run input text = IsRunText (end_of_run run input) run.goal (taken run.goal (lines_of run input)) text

-- the status of a call by what its files open a run with, and its text
abbrev pub status_opened : Result Lines Status → Text → Status
status_opened (Ok opening) input = status_of_run (opened_run opening) input
status_opened (Err s) input = s

abbrev pub IsTextOpened : Result Lines Status → Text → Text → Type 0
IsTextOpened (Ok opening) input text = IsTextOfRun (opened_run opening) input text
IsTextOpened (Err s) input text = text ≡ text_without_run s

-- the text of a run for the report that ends with this status, where the slip of a name is told in place of the report
abbrev pub IsSlipText : Text → Status → Text → Text → Type 0
IsSlipText name status.Done input text = text ≡ slip_told name (profile (heard input))
IsSlipText name s input text = IsTextOfRun (run_behind goal.Run []) input text

-- the status of a run for the report that ends with this status, where a file of withdrawals is taken behind the report
abbrev pub status_left : Text → Status → Text → Status
status_left bytes status.Done input = status_of_reserve (reserve_told bytes (heard input))
status_left bytes s input = s

-- its text
abbrev pub IsTextLeft : Text → Status → Text → Text → Type 0
IsTextLeft bytes status.Done input text = text ≡ text_of_reserve (reserve_told bytes (heard input))
IsTextLeft bytes s input text = IsTextOfRun (run_behind goal.Run []) input text

-- the status of a call by the file of withdrawals, which is loaded before the input is looked at, and its text
abbrev pub status_reserved : Result Text Status → Text → Status
status_reserved (Ok bytes) input = status_left bytes (status_of_run (run_behind goal.Run []) input) input
status_reserved (Err s) input = s

abbrev pub IsTextReserved : Result Text Status → Text → Text → Type 0
IsTextReserved (Ok bytes) input text = IsTextLeft bytes (status_of_run (run_behind goal.Run []) input) input text
IsTextReserved (Err s) input text = text ≡ text_without_run s

-- the status with which a call is to end
unfoldable pub due_status : Option Form → Given → Status
due_status None given = status.Usage
due_status (Some (form.Input g)) given = status_of_run (run_behind g []) given.input
due_status (Some form.Audit) given = status_of_run (run_behind goal.Run []) given.input
due_status (Some (form.Slip name)) given = status_of_run (run_behind goal.Run []) given.input
due_status (Some form.Opened) given = status_opened (opening_of given.files) given.input
due_status (Some (form.Judged document)) given = (judged document (file_at given.files 0)).0
due_status (Some form.Join) given = (joined given.files).0
due_status (Some form.Reserve) given = status_reserved (loaded (file_at given.files 0)) given.input

-- the text that is to be given
abbrev pub IsDueText : Option Form → Given → Text → Type 0
IsDueText None given text = text ≡ []
IsDueText (Some (form.Input g)) given text = IsTextOfRun (run_behind g []) given.input text
IsDueText (Some form.Audit) given text = IsTextOfRun (run_behind goal.Run []) given.input text
IsDueText (Some (form.Slip name)) given text =
    IsSlipText name (status_of_run (run_behind goal.Run []) given.input) given.input text
IsDueText (Some form.Opened) given text = IsTextOpened (opening_of given.files) given.input text
IsDueText (Some (form.Judged document)) given text = text ≡ (judged document (file_at given.files 0)).1
IsDueText (Some form.Join) given text = text ≡ (joined given.files).1
IsDueText (Some form.Reserve) given text = IsTextReserved (loaded (file_at given.files 0)) given.input text

-- the audit of the second version of lines that come to their report
abbrev pub audit_of : Lines → Text
audit_of lines = audit_bytes 2 lines (marks lines) (report_of lines)

-- the bytes that are to be stored where a call is done that stores a file
abbrev pub due_file : Option Form → Given → Text
due_file (Some form.Audit) given = audit_of (heard given.input)
due_file (Some (form.Judged document)) given = file_judged document (file_at given.files 0)
due_file asked given = []
