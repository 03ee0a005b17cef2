-- What is promised of a call, from the answer to what was asked.
use Rattle.std.proofs.Common.{◌≡◌, ◌⊎◌, ℕ, Bool, true, false, not, cond, ◌++◌, [], List, Option, Some, None, Result, Ok, Err, take, refl, sym, ap, ◌∙◌, subst, inl, inr, append-nil}
use Rattle.std.specs.Prelude.{All, IfSome, IsSomeAnd}
use Rattle.std.specs.Option.{option_map}
use Rattle.std.specs.Result.{result_ok}
use Rattle.std.proofs.lemmas.Option.{IfSome_then}
use Rattle.house_io.specs.Faults.{Rose}
use Rattle.house_io.specs.Sink.{AppendsWhereTold}
use Rattle.house_base.specs.declared.answer.Reason.{Reason}
use Rattle.house_base.specs.Text.{Text}
use Rattle.house_model.specs.declared.goal.Goal.{Goal}
use Rattle.house_model.specs.declared.goal.Goal.TheVariants as goal
use Rattle.house_model.specs.Ending.{Ended}
use Rattle.house_model.specs.Headline.{AreOfCall, ComesShort}
use Rattle.house_model.specs.Heard.{heard, is_over}
use Rattle.house_model.specs.Outcome.{outcome}
use Rattle.house_model.specs.Runs.{end_of, ends_run, looked_at, report_of, taken}
use Rattle.house_model.specs.Text.{Lines, lines}
use Rattle.house_model.proofs.HeadlineLemmas.{assigned_validly, counted, in_any_order, isolated, means, rounded, sealed, settled_validly}
use Rattle.house_model.proofs.RunEndLemmas.{shortage-ends}
use Rattle.house_model.proofs.SettledLemmas.{settled-some}
use Rattle.house_top.specs.declared.form.Form.{Form}
use Rattle.house_top.specs.declared.form.Form.TheVariants as form
use Rattle.house_top.specs.declared.status.Status.{Status}
use Rattle.house_top.specs.declared.status.Status.TheVariants as status
use Rattle.house_top.specs.Answer.{Answers, IsAnswerTo, IsAnswered, IsShortOrFault, IsWhole}
use Rattle.house_top.specs.Due.{IsDueText, IsRunText, IsTextOfRun, IsTextOpened, Run, due_status, end_of_run, hears, is_for_report, lines_of, opened_run, printed, reported, run_behind, run_of}
use Rattle.house_top.specs.Due.{leaving_asked, status_left, status_of_end, status_of_run, status_opened, status_reserved}
use Rattle.house_top.specs.Leaving.{status_of_reserve}
use Rattle.house_io.specs.Files.{Contents}
use Rattle.house_top.specs.Given.{Given, told}
use Rattle.house_top.specs.Opening.{file_at, loaded, opening_of}
use Rattle.house_top.specs.Promise.{Counts, EndsAsDue, Faults, IsCaused, IsDue, IsWellAssigned, KeepsFiles, KeepsThePromise, LoadRose, ReadRose, ReadsFarEnough, StoreRose, WritesWhatIsDue}
use Rattle.house_top.specs.Words.{loads}
use Rattle.house_top.proofs.AskLemmas.{heard_by, reported_by}
use Rattle.house_top.proofs.AnswerLemmas.{ends_short_of, goes_to_report, taken_done}
use Rattle.house_top.proofs.ReserveLemmas.{begins, heard_left, left_done, left_told, reported_left}
use Rattle.house_top.proofs.SlipLemmas.{judged_right, slip_is_due}
use Rattle.reserve_list.specs.Told.{reserve_told}
use Rattle.reserve_list.proofs.ToldLemmas.{seats-passed_on}
use Rattle.input_run.proofs.EndLemmas.{never_drawn}
use Rattle.input_run.proofs.FrontLemmas.{heard_within}
use Rattle.input_run.proofs.TellLemmas.{outcome_by}

-- A status is one of four kinds.

whole_answered : (s : Status) → IsAnswered s → IsWhole s
whole_answered status.Done h = h
whole_answered status.Usage h = absurd h
whole_answered (status.Refused line reason) h = h
whole_answered status.Short h = h
whole_answered status.ReadFault h = h
whole_answered status.WriteFault h = h
whole_answered status.Memory h = h
whole_answered status.TooLong h = h
whole_answered (status.BadFile why) h = h
whole_answered (status.Differs row) h = h
whole_answered (status.Wrong worth) h = h

is_due : (d s : Status) → s ≡ d → IsDue d s
is_due d status.Done h = h
is_due d status.Usage h = h
is_due d (status.Refused line reason) h = h
is_due d status.Short h = h
is_due d status.ReadFault h = tt
is_due d status.WriteFault h = tt
is_due d status.Memory h = tt
is_due d status.TooLong h = h
is_due d (status.BadFile why) h = h
is_due d (status.Differs row) h = h
is_due d (status.Wrong worth) h = h

not_usage : (s : Status) → IsAnswered s → s ≡ status.Usage → ⊥
not_usage s answered is = subst IsAnswered is answered

not_read_fault : (s : Status) → IsAnswered s → s ≡ status.ReadFault → ⊥
not_read_fault s answered is = subst IsAnswered is answered

not_write_fault : (s : Status) → IsAnswered s → s ≡ status.WriteFault → ⊥
not_write_fault s answered is = subst IsAnswered is answered

not_memory : (s : Status) → IsAnswered s → s ≡ status.Memory → ⊥
not_memory s answered is = subst IsAnswered is answered

asked_something : (asked : Option Form) (f : Form) → asked ≡ Some f → asked ≡ None → ⊥
asked_something asked f some none = let wrong : Some f ≡ None = sym some ∙ none in cc

-- what holds of everything holds of what is told
for_told : {A : Type 0} {P : A → Type 0} (told : Option A) → ((x : A) → P x) → IfSome told P
for_told None h = tt
for_told (Some x) h = h x

-- The runs of the forms.

-- The run of a call ends with its status; or its input is too long; or it is done, and what stands behind its report decides.
RunsTo : Goal → Lines → Status → Type 0
RunsTo g all s = (s ≡ status_of_end (Some (end_of g all))) ⊎ (((s ≡ status.TooLong) × (ends_run g all ≡ false))
    ⊎ ((status_of_end (Some (end_of g all)) ≡ status.Done) × (s ≡ status.Short → ⊥)))

run_by : (g : Goal) (opening : Lines) (input : Text) (over ends : Bool) → is_over input ≡ over → ends_run g (opening ++ heard input) ≡ ends →
    RunsTo g (opening ++ heard input) (status_of_end (outcome g opening input))
unfolding RunsTo
run_by g opening input false ends h e = inl (ap status_of_end (outcome_by g opening input false ends h e))
run_by g opening input true true h e = inl (ap status_of_end (outcome_by g opening input true true h e))
run_by g opening input true false h e = inr (inl (ap status_of_end (outcome_by g opening input true false h e), e))

abbrev a_run : Goal → Lines → Bool → Bool → Run
a_run g opening hears reports = record { goal = g; opening = opening; hears = hears; reports = reports }

-- a run ends with its status
run_ends : (g : Goal) (opening : Lines) (hears reports : Bool) (input : Text) → RunsTo g (lines_of (a_run g opening hears reports) input) (status_of_run (a_run g opening hears reports) input)
unfolding RunsTo
run_ends g opening true reports input = run_by g opening input (is_over input) (ends_run g (opening ++ heard input)) refl refl
run_ends g opening false reports input = inl refl

-- what is run of an opening
abbrev lines_by : Result Lines Status → Text → Option (Goal × Lines)
lines_by opening input = option_map (λ run. (run.goal, lines_of run input)) (option_map opened_run (result_ok opening))

opened_ends : (opening : Result Lines Status) (input : Text) →
    IfSome (lines_by opening input) (λ run. RunsTo run.0 run.1 (status_opened opening input))
opened_ends (Ok opening) input = run_ends goal.Run opening (not (ends_run goal.Run opening)) true input
opened_ends (Err s) input = tt

-- the status of what becomes of a file is never short
not_short : (r : Result Text (ℕ × Reason)) → status_of_reserve r ≡ status.Short → ⊥
not_short (Ok text) h = cc
not_short (Err fault) h = cc

-- a run that is told to be done is
told_done : (input : Text) (s : Status) → RunsTo goal.Run (heard input) s → s ≡ status.Done → status_of_end (Some (end_of goal.Run (heard input))) ≡ status.Done
unfolding RunsTo
told_done input s (inl ends) done = sym ends ∙ done
told_done input s (inr (inl long)) done = absurd (let wrong : status.TooLong ≡ status.Done = sym long.0 ∙ done in cc)
told_done input s (inr (inr behind)) done = behind.0

done_left : (bytes input : Text) → status_of_end (Some (end_of goal.Run (heard input))) ≡ status.Done → RunsTo goal.Run (heard input) (status_of_reserve (reserve_told bytes (heard input)))
unfolding RunsTo
done_left bytes input done = inr (inr (done, not_short (reserve_told bytes (heard input))))

-- what is run before a file of withdrawals is taken
left_runs : (bytes input : Text) (s : Status) → RunsTo goal.Run (heard input) s → RunsTo goal.Run (heard input) (status_left bytes s input)
left_runs bytes input status.Done runs = done_left bytes input (told_done input status.Done runs refl)
left_runs bytes input status.Usage runs = runs
left_runs bytes input (status.Refused line reason) runs = runs
left_runs bytes input status.Short runs = runs
left_runs bytes input status.ReadFault runs = runs
left_runs bytes input status.WriteFault runs = runs
left_runs bytes input status.Memory runs = runs
left_runs bytes input status.TooLong runs = runs
left_runs bytes input (status.BadFile why) runs = runs
left_runs bytes input (status.Differs row) runs = runs
left_runs bytes input (status.Wrong worth) runs = runs

abbrev runs_left : Result Text Status → Text → Option (Goal × Lines)
runs_left file input = option_map (λ (run : Run). (run.goal, lines_of run input)) (option_map (λ (bytes : Text). run_behind goal.Run []) (result_ok file))

reserved_runs : (file : Result Text Status) (input : Text) → IfSome (runs_left file input) (λ run. RunsTo run.0 run.1 (status_reserved file input))
reserved_runs (Ok bytes) input = left_runs bytes input (status_of_run (run_behind goal.Run []) input) (run_ends goal.Run [] true true input)
reserved_runs (Err s) input = tt

due_runs : (asked : Option Form) (given : Given) → IfSome (run_of asked given) (λ run. RunsTo run.0 run.1 (due_status asked given))
unfolding due_status
due_runs None given = tt
due_runs (Some (form.Input g)) given = run_ends g [] true (is_for_report g) given.input
due_runs (Some form.Opened) given = opened_ends (opening_of given.files) given.input
due_runs (Some form.Audit) given = run_ends goal.Run [] true true given.input
due_runs (Some (form.Slip name)) given = run_ends goal.Run [] true true given.input
due_runs (Some (form.Judged d)) given = tt
due_runs (Some form.Join) given = tt
due_runs (Some form.Reserve) given = reserved_runs (loaded (file_at given.files 0)) given.input

short_end : (e : Ended) → status_of_end (Some e) ≡ status.Short → e ≡ Ended.Short
short_end Ended.Done h = absurd (let wrong : ⊥ = cc in wrong)
short_end (Ended.Refused line reason) h = absurd (let wrong : ⊥ = cc in wrong)
short_end Ended.Short h = refl
short_end Ended.Settled h = absurd (let wrong : ⊥ = cc in wrong)

done_end : (e : Ended) → status_of_end (Some e) ≡ status.Done → (e ≡ Ended.Done) ⊎ (e ≡ Ended.Settled)
done_end Ended.Done h = inl refl
done_end (Ended.Refused line reason) h = absurd (let wrong : ⊥ = cc in wrong)
done_end Ended.Short h = absurd (let wrong : ⊥ = cc in wrong)
done_end Ended.Settled h = inr refl

comes_short : (g : Goal) (all : Lines) (s : Status) → RunsTo g all s → s ≡ status.Short → ComesShort g (looked_at g all)
unfolding RunsTo
comes_short g all s (inl ends) short = (shortage-ends g all).0 (short_end (end_of g all) (sym ends ∙ short))
comes_short g all s (inr (inl long)) short = absurd (let wrong : status.TooLong ≡ status.Short = sym long.0 ∙ short in cc)
comes_short g all s (inr (inr behind)) short = absurd (behind.1 short)

told_short : (g : Goal) (all : Lines) (s : Status) → RunsTo g all s → ComesShort g (looked_at g all) → IsShortOrFault s
unfolding RunsTo
told_short g all s (inl ends) comes = subst IsShortOrFault (sym (ends ∙ ap (λ e. status_of_end (Some e)) ((shortage-ends g all).1 comes))) tt
told_short g all s (inr (inr behind)) comes =
    absurd (let wrong : status.Short ≡ status.Done = sym (ap (λ e. status_of_end (Some e)) ((shortage-ends g all).1 comes)) ∙ behind.0 in cc)
told_short g all s (inr (inl long)) comes =
    absurd (let wrong : false ≡ true = sym long.1 ∙ ends_short_of g all ((shortage-ends g all).1 comes) in cc)

well_assigned : (g : Goal) (all : Lines) (s : Status) → RunsTo g all s → s ≡ status.Done → (g ≡ goal.Run → AreOfCall all) → IsWellAssigned g (taken g all)
unfolding RunsTo
well_assigned g all s runs done call = by_goal g call (done_end (end_of g all) (ended_done runs))
  where
    ended_done : RunsTo g all s → status_of_end (Some (end_of g all)) ≡ status.Done
    ended_done (inl ends) = sym ends ∙ done
    ended_done (inr (inl long)) = absurd (let wrong : status.TooLong ≡ status.Done = sym long.0 ∙ done in cc)
    ended_done (inr (inr behind)) = behind.0

    by_goal : (g : Goal) → (g ≡ goal.Run → AreOfCall all) → (end_of g all ≡ Ended.Done) ⊎ (end_of g all ≡ Ended.Settled) → IsWellAssigned g (taken g all)
    by_goal goal.Run call end = let of = call refl in subst (IsWellAssigned goal.Run) (sym (taken_done all of.done)) (assigned_validly all of)
    by_goal goal.Pairs call (inl drawn) = absurd (never_drawn goal.Pairs all refl drawn)
    by_goal goal.Pairs call (inr settled) = settled_validly all settled
    by_goal goal.Feasible call (inl drawn) = absurd (never_drawn goal.Feasible all refl drawn)
    by_goal goal.Feasible call (inr settled) = settled-some goal.Feasible all settled

-- a run for the report is of lines whose report is written
opened_is_reported : (opening : Result Lines Status) (input : Text) →
    IfSome (reported_by opening input) AreOfCall →
    IfSome (lines_by opening input) (λ run. run.0 ≡ goal.Run → AreOfCall run.1)
opened_is_reported (Ok opening) input call = λ run. call
opened_is_reported (Err s) input call = tt

reserve_is_reported : (file : Result Text Status) (input : Text) → IfSome (reported_left file input) AreOfCall → IfSome (runs_left file input) (λ run. run.0 ≡ goal.Run → AreOfCall run.1)
reserve_is_reported (Ok bytes) input call = λ run. call
reserve_is_reported (Err s) input call = tt

run_is_reported : (asked : Option Form) (given : Given) → IfSome (reported asked given) AreOfCall → IfSome (run_of asked given) (λ run. run.0 ≡ goal.Run → AreOfCall run.1)
run_is_reported None given call = tt
run_is_reported (Some (form.Input goal.Run)) given call = λ run. call
run_is_reported (Some (form.Input goal.Pairs)) given call = λ run. absurd (let wrong : ⊥ = cc in wrong)
run_is_reported (Some (form.Input goal.Feasible)) given call = λ run. absurd (let wrong : ⊥ = cc in wrong)
run_is_reported (Some form.Opened) given call = opened_is_reported (opening_of given.files) given.input call
run_is_reported (Some form.Audit) given call = λ run. call
run_is_reported (Some (form.Slip name)) given call = λ run. call
run_is_reported (Some (form.Judged d)) given call = tt
run_is_reported (Some form.Join) given call = tt
run_is_reported (Some form.Reserve) given call = reserve_is_reported (loaded (file_at given.files 0)) given.input call

-- The reports of the forms.

run_done : (e : Option Ended) → status_of_end e ≡ status.Done → IsSomeAnd e (λ end. (end ≡ Ended.Done) ⊎ (end ≡ Ended.Settled))
run_done None h = absurd (let wrong : ⊥ = cc in wrong)
run_done (Some e) h = done_end e h

done_run_text : (e : Option Ended) (all : Lines) (text : Text) → status_of_end e ≡ status.Done → IsRunText e goal.Run all text → text ≡ report_of all
done_run_text None all text done h = absurd (let wrong : ⊥ = cc in wrong)
done_run_text (Some Ended.Done) all text done h = h
done_run_text (Some Ended.Settled) all text done h = h
done_run_text (Some (Ended.Refused line reason)) all text done h = absurd (let wrong : ⊥ = cc in wrong)
done_run_text (Some Ended.Short) all text done h = absurd (let wrong : ⊥ = cc in wrong)

-- the text of a run that comes to its report
run_report : (run : Run) (input text : Text) → run.goal ≡ goal.Run → status_of_run run input ≡ status.Done → IsTextOfRun run input text → AreOfCall (lines_of run input) →
    text ≡ report_of (lines_of run input)
run_report run input text is done h call =
    done_run_text (end_of_run run input) (taken goal.Run (lines_of run input)) text done
    (subst (λ g. IsRunText (end_of_run run input) g (taken g (lines_of run input)) text) is h)
    ∙ ap report_of (taken_done (lines_of run input) call.done)

opened_report : (opening : Result Lines Status) (input text : Text) → status_opened opening input ≡ status.Done → IsTextOpened opening input text →
    IfSome (reported_by opening input) AreOfCall →
    IfSome (reported_by opening input) (λ all. text ≡ report_of all)
opened_report (Ok opening) input text done h call = run_report (opened_run opening) input text refl done h call
opened_report (Err s) input text done h call = tt

-- the text that is due where a report is written is the report of its lines
report_is_due : (asked : Option Form) (given : Given) (text : Text) → due_status asked given ≡ status.Done → IsDueText asked given text → IfSome (reported asked given) AreOfCall →
    IfSome (printed asked given) (λ all. text ≡ report_of all)
unfolding due_status
report_is_due None given text done h call = tt
report_is_due (Some (form.Input goal.Run)) given text done h call = run_report (run_behind goal.Run []) given.input text refl done h call
report_is_due (Some (form.Input goal.Pairs)) given text done h call = tt
report_is_due (Some (form.Input goal.Feasible)) given text done h call = tt
report_is_due (Some form.Opened) given text done h call = opened_report (opening_of given.files) given.input text done h call
report_is_due (Some form.Audit) given text done h call = run_report (run_behind goal.Run []) given.input text refl done h call
report_is_due (Some (form.Slip name)) given text done h call = tt
report_is_due (Some (form.Judged d)) given text done h call = tt
report_is_due (Some form.Join) given text done h call = tt
report_is_due (Some form.Reserve) given text done h call = tt

not_over : (opening : Lines) (input : Text) (over : Bool) → is_over input ≡ over → ends_run goal.Run (opening ++ heard input) ≡ false →
    status_of_end (outcome goal.Run opening input) ≡ status.Done → is_over input ≡ false
not_over opening input false h goes done = h
not_over opening input true h goes done =
    absurd (let wrong : status.TooLong ≡ status.Done = sym (ap status_of_end (outcome_by goal.Run opening input true false h goes)) ∙ done in cc)

-- the lines of a report are all lines of the input, behind the opening, where the input is heard
all_of_run : (opening : Lines) (hears : Bool) (input : Text) →
    status_of_run (a_run goal.Run opening hears true) input ≡ status.Done → AreOfCall (lines_of (a_run goal.Run opening hears true) input) →
    IfSome {T = Goal × Lines} (cond hears (Some (goal.Run, opening)) None) (λ h. lines_of (a_run goal.Run opening hears true) input ≡ h.1 ++ lines input)
all_of_run opening true input done call =
    ap (λ ls. opening ++ ls) (heard_within input (not_over opening input (is_over input) refl (goes_to_report (opening ++ heard input) call.done) done))
all_of_run opening false input done call = tt

all_opened : (opening : Result Lines Status) (input : Text) → status_opened opening input ≡ status.Done →
    IfSome (reported_by opening input) AreOfCall →
    IfSome (reported_by opening input)
    (λ all. IfSome (heard_by opening) (λ h. all ≡ h.1 ++ lines input))
all_opened (Ok opening) input done call = all_of_run opening (not (ends_run goal.Run opening)) input done call
all_opened (Err s) input done call = tt

all_left : (file : Result Text Status) (input : Text) → status_reserved file input ≡ status.Done → IfSome (reported_left file input) AreOfCall →
    IfSome (reported_left file input) (λ all. IfSome (heard_left file) (λ h. all ≡ h.1 ++ lines input))
all_left (Ok bytes) input done call = all_of_run [] true input (left_done bytes (status_of_run (run_behind goal.Run []) input) input done) call
all_left (Err s) input done call = tt

all_lines : (asked : Option Form) (given : Given) → due_status asked given ≡ status.Done → IfSome (reported asked given) AreOfCall →
    IfSome (reported asked given) (λ all. IfSome (hears asked given) (λ h. all ≡ h.1 ++ lines given.input))
unfolding due_status
all_lines None given done call = tt
all_lines (Some (form.Input goal.Run)) given done call = all_of_run [] true given.input done call
all_lines (Some (form.Input goal.Pairs)) given done call = tt
all_lines (Some (form.Input goal.Feasible)) given done call = tt
all_lines (Some form.Opened) given done call = all_opened (opening_of given.files) given.input done call
all_lines (Some form.Audit) given done call = all_of_run [] true given.input done call
all_lines (Some (form.Slip name)) given done call = all_of_run [] true given.input done call
all_lines (Some (form.Judged d)) given done call = tt
all_lines (Some form.Join) given done call = tt
all_lines (Some form.Reserve) given done call = all_left (loaded (file_at given.files 0)) given.input done call

-- What a report is written of is a whole call.
printed_call : (asked : Option Form) (given : Given) → IfSome (reported asked given) AreOfCall → IfSome (printed asked given) AreOfCall
printed_call None given call = tt
printed_call (Some (form.Input g)) given call = call
printed_call (Some form.Opened) given call = call
printed_call (Some form.Audit) given call = call
printed_call (Some (form.Slip name)) given call = tt
printed_call (Some (form.Judged d)) given call = call
printed_call (Some form.Join) given call = call
printed_call (Some form.Reserve) given call = tt

-- Where the words are of no form.

two_told : {A : Type 0} {P Q R : A → Type 0} (told : Option A) → IfSome told P → IfSome told Q → ((x : A) → P x → Q x → R x) → IfSome told R
two_told None p q h = tt
two_told (Some x) p q h = h x p q

appends_nothing : (shown : Option Text) → AppendsWhereTold shown shown []
appends_nothing None = tt
appends_nothing (Some now) = sym (append-nil now)

no_form_ends : (given : Option Given) (input : Option Text) (faults : Faults) → EndsAsDue None given input status.Usage faults
unfolding due_status
no_form_ends given input faults = record {
  usage = (λ is. refl, λ is. refl);
  due = for_told given (λ given. refl);
  complete = for_told given (λ given unread unloaded unstored unwritten. inl refl);
  read_fault = λ is. absurd (let wrong : ⊥ = cc in wrong);
  write_fault = λ is. absurd (let wrong : ⊥ = cc in wrong);
  too_long = λ is. absurd (let wrong : ⊥ = cc in wrong);
  bad_file = λ why is. absurd (let wrong : ⊥ = cc in wrong);
}

pub usage_ends : (asked : Option Form) (given : Option Given) (input : Option Text) (faults : Faults) → asked ≡ None → EndsAsDue asked given input status.Usage faults
usage_ends asked given input faults none = subst (λ asked. EndsAsDue asked given input status.Usage faults) (sym none) (no_form_ends given input faults)

pub usage_writes : {O : Type 0} (shown : O → Option Text) (asked : Option Form) (given : Option Given) (old : O) → asked ≡ None → WritesWhatIsDue shown asked given status.Usage old old
usage_writes {O} shown asked given old none = subst (λ asked. WritesWhatIsDue shown asked given status.Usage old old) (sym none) (record {
  whole_text = for_told given (λ given whole. ([], refl, appends_nothing (shown old)));
  write_fault_front = for_told given (λ given is. absurd (let wrong : ⊥ = cc in wrong));
  usage_writes_nothing = λ is. refl;
  read_fault_writes_nothing = λ is. refl;
  memory_writes_nothing = λ is. refl;
})

pub usage_promise : (asked : Option Form) (given : Option Given) (before after : Option Text) → asked ≡ None → KeepsThePromise asked given status.Usage before after
usage_promise asked given before after none = subst (λ asked. KeepsThePromise asked given status.Usage before after) (sym none) (record {
  chances_are_counted = λ is. for_told given (λ given. tt);
  own_reviews_change_no_chance = λ is. for_told given (λ given. tt);
  seats_are_quotas_rounded = λ is. for_told given (λ given. tt);
  quotas_are_means = λ is. for_told given (λ given. tt);
  order_of_arrival_changes_nothing = λ is. for_told given (λ given. tt);
  seal_is_kept = λ is. for_told given (λ given. tt);
  own_reviews_are_in_no_slip = λ is. for_told given (λ given. tt);
  right_slips_print_chances = λ is. for_told given (λ given. tt);
  report_stands_first = λ is. for_told given (λ given. tt);
  seats_are_passed_on = λ is. for_told given (λ given. tt);
  all_lines_are_run = λ is. for_told given (λ given. tt);
  assignment_is_valid = λ is. for_told given (λ given. tt);
  short_for_want_of_an_assignment = λ is. for_told given (λ given. tt);
  want_of_an_assignment_is_told = for_told given (λ given. tt);
})

pub usage_reads : {I : Type 0} (left : I → Option Text) (asked : Option Form) (given : Option Given) (loads : Counts) (old : I) → asked ≡ None → ReadsFarEnough left asked given loads status.Usage old old
usage_reads {I} left asked given loads old none = subst (λ asked. ReadsFarEnough left asked given loads status.Usage old old) (sym none) (record {
  read_far_enough = λ read kept. for_told given (λ given. tt);
  read_fault_undecided = λ is. absurd (let wrong : ⊥ = cc in wrong);
  read_no_further = for_told given (λ given. tt);
  read_to_end = λ is. for_told given (λ given. tt);
  usage_reads_nothing = λ is. refl;
  unheard_is_unread = for_told given (λ given unheard. refl);
  bad_file_reads_nothing = λ why is other. refl;
})

pub usage_files : {F : Type 0} (shown : F → Option Contents) (names : List Text) (old : F) → KeepsFiles shown names old old
usage_files {F} shown names old = record { files_unchanged = refl; shelf_unchanged = λ none. refl }

-- Where there is no answer, or where it is not given whole.

pub read_fault_ends : (asked : Option Form) (f : Form) (given : Option Given) (input : Option Text) (faults : Faults) → asked ≡ Some f →
    ReadRose asked faults.reads ⊎ LoadRose asked faults.loads → EndsAsDue asked given input status.ReadFault faults
read_fault_ends asked f given input faults some rose = record {
  usage = (λ is. absurd (let wrong : ⊥ = cc in wrong), λ none. absurd (asked_something asked f some none));
  due = for_told given (λ given. tt);
  complete = for_told given (λ given unread unloaded unstored unwritten. absurd (elim rose [ inl read ↦ unread read | inr loaded ↦ unloaded loaded ]));
  read_fault = λ is. rose;
  write_fault = λ is. absurd (let wrong : ⊥ = cc in wrong);
  too_long = λ is. absurd (let wrong : ⊥ = cc in wrong);
  bad_file = λ why is. absurd (let wrong : ⊥ = cc in wrong);
}

pub memory_ends : (asked : Option Form) (f : Form) (given : Option Given) (input : Option Text) (faults : Faults) → asked ≡ Some f → EndsAsDue asked given input status.Memory faults
memory_ends asked f given input faults some = record {
  usage = (λ is. absurd (let wrong : ⊥ = cc in wrong), λ none. absurd (asked_something asked f some none));
  due = for_told given (λ given. tt);
  complete = for_told given (λ given unread unloaded unstored unwritten. inr refl);
  read_fault = λ is. absurd (let wrong : ⊥ = cc in wrong);
  write_fault = λ is. absurd (let wrong : ⊥ = cc in wrong);
  too_long = λ is. absurd (let wrong : ⊥ = cc in wrong);
  bad_file = λ why is. absurd (let wrong : ⊥ = cc in wrong);
}

pub write_fault_ends : (asked : Option Form) (f : Form) (given : Option Given) (input : Option Text) (faults : Faults) → asked ≡ Some f → Rose faults.writes.0 faults.writes.1 ⊎ StoreRose asked faults.loads →
    EndsAsDue asked given input status.WriteFault faults
write_fault_ends asked f given input faults some rose = record {
  usage = (λ is. absurd (let wrong : ⊥ = cc in wrong), λ none. absurd (asked_something asked f some none));
  due = for_told given (λ given. tt);
  complete = for_told given (λ given unread unloaded unstored unwritten. absurd (elim rose [ inl wrote ↦ unwritten wrote | inr stored ↦ unstored stored ]));
  read_fault = λ is. absurd (let wrong : ⊥ = cc in wrong);
  write_fault = λ is. rose;
  too_long = λ is. absurd (let wrong : ⊥ = cc in wrong);
  bad_file = λ why is. absurd (let wrong : ⊥ = cc in wrong);
}

pub read_fault_writes : {O : Type 0} (shown : O → Option Text) (asked : Option Form) (given : Option Given) (old : O) → WritesWhatIsDue shown asked given status.ReadFault old old
read_fault_writes {O} shown asked given old = record {
  whole_text = for_told given (λ given whole. absurd whole);
  write_fault_front = for_told given (λ given is. absurd (let wrong : ⊥ = cc in wrong));
  usage_writes_nothing = λ is. refl;
  read_fault_writes_nothing = λ is. refl;
  memory_writes_nothing = λ is. refl;
}

pub memory_writes : {O : Type 0} (shown : O → Option Text) (asked : Option Form) (given : Option Given) (old : O) → WritesWhatIsDue shown asked given status.Memory old old
memory_writes {O} shown asked given old = record {
  whole_text = for_told given (λ given whole. absurd whole);
  write_fault_front = for_told given (λ given is. absurd (let wrong : ⊥ = cc in wrong));
  usage_writes_nothing = λ is. refl;
  read_fault_writes_nothing = λ is. refl;
  memory_writes_nothing = λ is. refl;
}

pub write_fault_writes : {O : Type 0} (shown : O → Option Text) (asked : Option Form) (given : Option Given) (s : Status) (text : Text) (old new : O) → Answers asked given s text →
    (count : ℕ) × AppendsWhereTold (shown old) (shown new) (take count text) → WritesWhatIsDue shown asked given status.WriteFault old new
write_fault_writes {O} shown asked given s text old new answers front = record {
  whole_text = for_told given (λ given whole. absurd whole);
  write_fault_front = IfSome_then given answers.as_due (λ given answer is. (text, answer.writes, front));
  usage_writes_nothing = λ is. absurd (let wrong : ⊥ = cc in wrong);
  read_fault_writes_nothing = λ is. absurd (let wrong : ⊥ = cc in wrong);
  memory_writes_nothing = λ is. absurd (let wrong : ⊥ = cc in wrong);
}

-- a fault keeps each promise, since it says nothing but that there was one
pub fault_promise : (asked : Option Form) (given : Option Given) (s : Status) (before after : Option Text) → (s ≡ status.Done → ⊥) → (s ≡ status.Short → ⊥) → IsShortOrFault s →
    KeepsThePromise asked given s before after
fault_promise asked given s before after not_done not_short faulty = record {
  chances_are_counted = λ is. absurd (not_done is);
  own_reviews_change_no_chance = λ is. absurd (not_done is);
  seats_are_quotas_rounded = λ is. absurd (not_done is);
  quotas_are_means = λ is. absurd (not_done is);
  order_of_arrival_changes_nothing = λ is. absurd (not_done is);
  seal_is_kept = λ is. absurd (not_done is);
  own_reviews_are_in_no_slip = λ is. absurd (not_done is);
  right_slips_print_chances = λ is. absurd (not_done is);
  report_stands_first = λ is. absurd (not_done is);
  seats_are_passed_on = λ is. absurd (not_done is);
  all_lines_are_run = λ is. absurd (not_done is);
  assignment_is_valid = λ is. absurd (not_done is);
  short_for_want_of_an_assignment = λ is. absurd (not_short is);
  want_of_an_assignment_is_told = for_told given (λ given. for_told (run_of asked given) (λ run comes. faulty));
}

-- an answer that is not given whole was read as far
pub reads_unwritten : {I : Type 0} (left : I → Option Text) (asked : Option Form) (given : Option Given) (loads : Counts) (s : Status) (old new : I) → IsAnswered s →
    ReadsFarEnough left asked given loads s old new → ReadsFarEnough left asked given loads status.WriteFault old new
reads_unwritten {I} left asked given loads s old new answered reads = record {
  read_far_enough = λ read kept. reads.read_far_enough (not_read_fault s answered) (not_memory s answered);
  read_fault_undecided = λ is. absurd (let wrong : ⊥ = cc in wrong);
  read_no_further = reads.read_no_further;
  read_to_end = λ is. absurd (let wrong : ⊥ = cc in wrong);
  usage_reads_nothing = λ is. absurd (let wrong : ⊥ = cc in wrong);
  unheard_is_unread = reads.unheard_is_unread;
  bad_file_reads_nothing = λ why is. absurd (let wrong : ⊥ = cc in wrong);
}

-- Where an answer is given whole.

pub whole_ends : (asked : Option Form) (f : Form) (given : Option Given) (input : Option Text) (s : Status) (text : Text) (faults : Faults) → asked ≡ Some f → Answers asked given s text →
    IsCaused asked given input s faults.reads faults.loads → EndsAsDue asked given input s faults
whole_ends asked f given input s text faults some answers caused = record {
  usage = (λ is. absurd (not_usage s answers.answered is), λ none. absurd (asked_something asked f some none));
  due = IfSome_then given answers.as_due (λ given answer. is_due (due_status asked given) s answer.ends);
  complete = IfSome_then given answers.as_due (λ given answer unread unloaded unstored unwritten. inl answer.ends);
  read_fault = λ is. absurd (not_read_fault s answers.answered is);
  write_fault = λ is. absurd (not_write_fault s answers.answered is);
  too_long = caused.too_long;
  bad_file = caused.bad_file;
}

pub whole_writes : {O : Type 0} (shown : O → Option Text) (asked : Option Form) (given : Option Given) (s : Status) (text : Text) (old new : O) → Answers asked given s text →
    AppendsWhereTold (shown old) (shown new) text → WritesWhatIsDue shown asked given s old new
whole_writes {O} shown asked given s text old new answers appended = record {
  whole_text = IfSome_then given answers.as_due (λ given answer whole. (text, answer.writes, appended));
  write_fault_front = for_told given (λ given is. absurd (not_write_fault s answers.answered is));
  usage_writes_nothing = λ is. absurd (not_usage s answers.answered is);
  read_fault_writes_nothing = λ is. absurd (not_read_fault s answers.answered is);
  memory_writes_nothing = λ is. absurd (not_memory s answers.answered is);
}

pub whole_promise : (asked : Option Form) (given : Option Given) (s : Status) (text : Text) (before after : Option Text) → Answers asked given s text → AppendsWhereTold before after text →
    KeepsThePromise asked given s before after
whole_promise asked given s text before after answers appended = record {
  chances_are_counted = λ done. IfSome_then given answers.as_due (λ given answer.
      two_told (printed asked given) (printed_call asked given (answer.of_call done)) (report_text given answer done) (λ all of is. (text, counted all text of is, appended)));
  own_reviews_change_no_chance = λ done. IfSome_then given answers.as_due (λ given answer.
      two_told (printed asked given) (printed_call asked given (answer.of_call done)) (report_text given answer done) (λ all of is. (text, isolated all text of is, appended)));
  seats_are_quotas_rounded = λ done. IfSome_then given answers.as_due (λ given answer. IfSome_then (reported asked given) (answer.of_call done) rounded);
  quotas_are_means = λ done. IfSome_then given answers.as_due (λ given answer. IfSome_then (reported asked given) (answer.of_call done) means);
  order_of_arrival_changes_nothing = λ done. IfSome_then given answers.as_due (λ given answer. IfSome_then (reported asked given) (answer.of_call done) in_any_order);
  seal_is_kept = λ done. IfSome_then given answers.as_due (λ given answer. IfSome_then (reported asked given) (answer.of_call done) sealed);
  own_reviews_are_in_no_slip = λ done. IfSome_then given answers.as_due (λ given answer.
      slip_is_due asked given text before after (sym answer.ends ∙ done) answer.writes (answer.of_call done) appended);
  right_slips_print_chances = λ done. IfSome_then given answers.as_due (λ given answer. judged_right asked given (sym answer.ends ∙ done));
  report_stands_first = λ done. IfSome_then given answers.as_due (λ given answer. IfSome_then (leaving_asked asked given)
      (left_told asked given text (sym answer.ends ∙ done) answer.writes (answer.of_call done))
      (λ left told. (text, begins left.1 left.0 text told.1 (seats-passed_on left.1 left.0 text told.1 told.0), appended)));
  seats_are_passed_on = λ done. IfSome_then given answers.as_due (λ given answer. IfSome_then (leaving_asked asked given)
      (left_told asked given text (sym answer.ends ∙ done) answer.writes (answer.of_call done))
      (λ left told. (text, seats-passed_on left.1 left.0 text told.1 told.0, appended)));
  all_lines_are_run = λ done. IfSome_then given answers.as_due (λ given answer. all_lines asked given (sym answer.ends ∙ done) (answer.of_call done));
  assignment_is_valid = λ done. IfSome_then given answers.as_due (λ given answer.
      two_told (run_of asked given) (due_runs asked given) (run_is_reported asked given (answer.of_call done))
      (λ run runs call. well_assigned run.0 run.1 (due_status asked given) runs (sym answer.ends ∙ done) call));
  short_for_want_of_an_assignment = λ short. IfSome_then given answers.as_due (λ given answer.
      IfSome_then (run_of asked given) (due_runs asked given) (λ run runs. comes_short run.0 run.1 (due_status asked given) runs (sym answer.ends ∙ short)));
  want_of_an_assignment_is_told = IfSome_then given answers.as_due (λ given answer.
      IfSome_then (run_of asked given) (due_runs asked given) (λ run runs comes. subst IsShortOrFault (sym answer.ends) (told_short run.0 run.1 (due_status asked given) runs comes)));
}
  where
    report_text : (given : Given) → IsAnswerTo asked given s text → s ≡ status.Done → IfSome (printed asked given) (λ all. text ≡ report_of all)
    report_text given answer done = report_is_due asked given text (sym answer.ends ∙ done) answer.writes (answer.of_call done)

-- What holds of a form holds of what was asked where that is the form.

pub asked_answers : (asked : Option Form) (f : Form) (names : List Text) (input : Option Text) (files : Option Contents) (s : Status) (text : Text) → asked ≡ Some f →
    Answers (Some f) (told (Some f) names input files) s text → Answers asked (told asked names input files) s text
asked_answers asked f names input files s text some answers = subst (λ a. Answers a (told a names input files) s text) (sym some) answers

pub asked_caused : (asked : Option Form) (f : Form) (names : List Text) (input : Option Text) (files : Option Contents) (s t : Status) (reads loads : Counts) → asked ≡ Some f → s ≡ t →
    IsCaused (Some f) (told (Some f) names input files) input s reads loads → IsCaused asked (told asked names input files) input t reads loads
asked_caused asked f names input files s t reads loads some is caused =
    subst (λ a. IsCaused a (told a names input files) input t reads loads) (sym some) (subst (λ s. IsCaused (Some f) (told (Some f) names input files) input s reads loads) is caused)

pub asked_reads : {I : Type 0} (left : I → Option Text) (asked : Option Form) (f : Form) (names : List Text) (input : Option Text) (files : Option Contents) (loads : Counts) (s t : Status) (old new : I) → asked ≡ Some f → s ≡ t →
    ReadsFarEnough left (Some f) (told (Some f) names input files) loads s old new → ReadsFarEnough left asked (told asked names input files) loads t old new
asked_reads {I} left asked f names input files loads s t old new some is reads =
    subst (λ a. ReadsFarEnough left a (told a names input files) loads t old new) (sym some)
    (subst (λ s. ReadsFarEnough left (Some f) (told (Some f) names input files) loads s old new) is reads)

pub asked_files : {F : Type 0} (shown : F → Option Contents) (asked : Option Form) (f : Form) (names : List Text) (old new : F) → asked ≡ Some f → KeepsFiles shown (loads (Some f) names) old new →
    KeepsFiles shown (loads asked names) old new
asked_files {F} shown asked f names old new some kept = subst (λ a. KeepsFiles shown (loads a names) old new) (sym some) kept

pub asked_ready : (P : Text → Type 0) (asked : Option Form) (f : Form) (names : List Text) → asked ≡ Some f → All P (loads asked names) → All P (loads (Some f) names)
asked_ready P asked f names some ready = subst (λ a. All P (loads a names)) some ready
