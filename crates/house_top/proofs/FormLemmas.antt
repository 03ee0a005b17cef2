-- The answers of the forms, from the answers of their runs.
use Rattle.std.proofs.Common.{◌≡◌, ◌⊎◌, Bool, true, false, not, cond, ◌&&◌, [], ◌∷◌, ◌++◌, List, Option, Some, None, Result, Ok, Err, refl, sym, ap, ◌∙◌, subst, inl, inr}
use Rattle.std.specs.Prelude.{IfOk, IfSome, IsSomeAnd, IsTrue}
use Rattle.std.specs.Option.{option_map}
use Rattle.house_io.specs.Faults.{Rose}
use Rattle.house_io.specs.Files.{Contents}
use Rattle.house_base.specs.Text.{Text}
use Rattle.house_model.specs.declared.goal.Goal.{Goal}
use Rattle.house_model.specs.declared.goal.Goal.TheVariants as goal
use Rattle.house_model.specs.Ending.{Ended}
use Rattle.house_model.specs.Headline.{AreOfCall}
use Rattle.house_model.specs.Heard.{heard, is_over}
use Rattle.house_model.specs.Outcome.{outcome}
use Rattle.house_model.specs.Runs.{end_of, ends_run}
use Rattle.house_model.specs.Text.{Lines}
use Rattle.house_top.specs.declared.answer.Answer.{Answer}
use Rattle.house_top.specs.declared.bad.Bad.{Bad}
use Rattle.house_top.specs.declared.form.Form.{Form}
use Rattle.house_top.specs.declared.form.Form.TheVariants as form
use Rattle.house_top.specs.declared.opening.Opened.{Opened}
use Rattle.house_top.specs.declared.opening.Opened.TheVariants as opened
use Rattle.house_top.specs.declared.status.Status.{Status}
use Rattle.house_top.specs.declared.status.Status.TheVariants as status
use Rattle.house_top.specs.Answer.{Answers, AnswersRun, IsAnswerOfRun, IsAnswerTo, IsAnswered, IsOfRun, ReadsOpened, ReadsRun, status_of_answer}
use Rattle.house_top.specs.Due.{IsTextOpened, Run, due_status, hears, is_for_report, opened_run, reported, run_behind, status_of_end, status_opened}
use Rattle.house_top.specs.Given.{Given, held, input_alone, input_behind, told, told_behind}
use Rattle.house_top.specs.Opened.{HasFewLines, IsBadOpening, IsOpened, OpensNone}
use Rattle.house_top.specs.Opening.{opening_of}
use Rattle.house_top.specs.Refused.{text_without_run}
use Rattle.house_top.specs.Promise.{Counts, IsCaused, KeepsFiles, ReadsFarEnough}
use Rattle.house_top.specs.Words.{loads}
use Rattle.input_run.specs.declared.fault.InputFault.{InputFault}
use Rattle.input_run.specs.declared.fault.InputFault.TheVariants as faults
use Rattle.input_run.specs.Input.{DecidedWhereTold, EndsWhereTold, NoFurtherWhereTold, UndecidedWhereTold}
use Rattle.house_top.proofs.ReadLemmas.{nothing_further}
use Rattle.house_top.proofs.AskLemmas.{heard_by, reported_by}

-- How a run can end.

pub run_answered : (s : Status) → IsOfRun s → IsAnswered s
run_answered status.Done h = tt
run_answered status.Usage h = absurd h
run_answered (status.Refused line reason) h = tt
run_answered status.Short h = tt
run_answered status.ReadFault h = absurd h
run_answered status.WriteFault h = absurd h
run_answered status.Memory h = absurd h
run_answered status.TooLong h = tt
run_answered (status.BadFile why) h = absurd h
run_answered (status.Differs row) h = absurd h
run_answered (status.Wrong worth) h = absurd h

not_bad : (s : Status) (why : Bad) → IsOfRun s → s ≡ status.BadFile why → ⊥
not_bad s why of is = subst IsOfRun is of

not_usage : (s : Status) → IsOfRun s → s ≡ status.Usage → ⊥
not_usage s of is = subst IsOfRun is of

not_fault : (s : Status) → IsOfRun s → s ≡ status.ReadFault → ⊥
not_fault s of is = subst IsOfRun is of

-- a run whose input is too long: the input is over its limits
over_by : (over ends : Bool) (end : Ended) → status_of_end (cond (over && not ends) None (Some end)) ≡ status.TooLong → over ≡ true
over_by true ends end h = refl
over_by false ends Ended.Done h = absurd (let wrong : ⊥ = cc in wrong)
over_by false ends (Ended.Refused line reason) h = absurd (let wrong : ⊥ = cc in wrong)
over_by false ends Ended.Short h = absurd (let wrong : ⊥ = cc in wrong)
over_by false ends Ended.Settled h = absurd (let wrong : ⊥ = cc in wrong)

outcome_over : (g : Goal) (opening : Lines) (input : Text) → status_of_end (outcome g opening input) ≡ status.TooLong → is_over input ≡ true
unfolding outcome
outcome_over g opening input h = over_by (is_over input) (ends_run g (opening ++ heard input)) (end_of g (opening ++ heard input)) h

never_over : (end : Ended) → status_of_end (Some end) ≡ status.TooLong → ⊥
never_over end h = by_end end h where
  by_end : (end : Ended) → status_of_end (Some end) ≡ status.TooLong → ⊥
  by_end Ended.Done h = cc
  by_end (Ended.Refused line reason) h = cc
  by_end Ended.Short h = cc
  by_end Ended.Settled h = cc

-- The words `run`, `pairs` and `feasible`.

input_call : (g : Goal) (input : Text) (s : Status) → (IsTrue (is_for_report g) → s ≡ status.Done → AreOfCall (heard input)) → s ≡ status.Done →
    IfSome (reported (Some (form.Input g)) (input_alone input)) AreOfCall
input_call goal.Run input s call done = call refl done
input_call goal.Pairs input s call done = tt
input_call goal.Feasible input s call done = tt

pub input_answers : (g : Goal) (names : List Text) (input : Option Text) (files : Option Contents) (s : Status) (text : Text) → AnswersRun (run_behind g []) input s text →
    Answers (Some (form.Input g)) (told (Some (form.Input g)) names input files) s text
unfolding due_status
input_answers g names input files s text answers = record { answered = run_answered s answers.answered; as_due = where_told input answers.as_run }
  where
    where_told : (input : Option Text) → IfSome input (λ input. IsAnswerOfRun (run_behind g []) input s text) →
        IfSome (option_map input_alone input) (λ given. IsAnswerTo (Some (form.Input g)) given s text)
    where_told None as_run = tt
    where_told (Some input) as_run = record { ends = as_run.ends; writes = as_run.writes; of_call = input_call g input s as_run.of_call }

told_input : (told : Option Text) {P : Given → Type 0} → ((given : Given) → P given) → IfSome (option_map input_alone told) P
told_input None h = tt
told_input (Some input) h = h (input_alone input)

-- an answer that is no fault
no_fault : (r : Result Answer InputFault) → IfOk r (λ answer. IsOfRun answer.status) → (why : Bad) → status_of_answer r ≡ status.BadFile why → ⊥
no_fault (Ok answer) of why is = not_bad answer.status why of is
no_fault (Err faults.Failed) of why is = cc
no_fault (Err faults.Memory) of why is = cc

never_usage : (r : Result Answer InputFault) → IfOk r (λ answer. IsOfRun answer.status) → status_of_answer r ≡ status.Usage → ⊥
never_usage (Ok answer) of is = not_usage answer.status of is
never_usage (Err faults.Failed) of is = cc
never_usage (Err faults.Memory) of is = cc

only_failed : (r : Result Answer InputFault) → IfOk r (λ answer. IsOfRun answer.status) → status_of_answer r ≡ status.ReadFault → r ≡ Err faults.Failed
only_failed (Ok answer) of is = absurd (not_fault answer.status of is)
only_failed (Err faults.Failed) of is = refl
only_failed (Err faults.Memory) of is = absurd (let wrong : ⊥ = cc in wrong)

of_run : (run : Run) (input : Option Text) (r : Result Answer InputFault) → IfOk r (λ answer. AnswersRun run input answer.status answer.text.items) → IfOk r (λ answer. IsOfRun answer.status)
of_run run input (Ok answer) answers = answers.answered
of_run run input (Err fault) answers = tt

-- what an input is where a run of it is told to be too long
pub long_input : (r : Result Answer InputFault) (g : Goal) (opening : Lines) (input : Option Text) → IfOk r (λ answer. AnswersRun (run_behind g opening) input answer.status answer.text.items) →
    status_of_answer r ≡ status.TooLong → IfSome input (λ input. is_over input ≡ true)
long_input r g opening None answers long = tt
long_input (Ok answer) g opening (Some input) answers long = outcome_over g opening input (sym answers.as_run.ends ∙ long)
long_input (Err faults.Failed) g opening (Some input) answers long = absurd (let wrong : ⊥ = cc in wrong)
long_input (Err faults.Memory) g opening (Some input) answers long = absurd (let wrong : ⊥ = cc in wrong)

pub input_caused : (r : Result Answer InputFault) (g : Goal) (given : Option Given) (input : Option Text) (reads loads : Counts) →
    IfOk r (λ answer. AnswersRun (run_behind g []) input answer.status answer.text.items) → (r ≡ Err faults.Failed → Rose reads.0 reads.1) →
    IsCaused (Some (form.Input g)) given input (status_of_answer r) reads loads
input_caused r g given input reads loads answers failed = record {
  read_fault = λ is. inl (failed (only_failed r (of_run _ _ r answers) is));
  too_long = λ long unloaded. either input (long_input r g [] input answers long);
  bad_file = λ why is. absurd (no_fault r (of_run _ _ r answers) why is);
}
  where
    either : (input : Option Text) → IfSome input (λ input. is_over input ≡ true) →
        IfSome input (λ input. IsSomeAnd given (λ given. due_status (Some (form.Input g)) given ≡ status.TooLong) ⊎ (is_over input ≡ true))
    either None over = tt
    either (Some input) over = inr over

pub input_reads : {I : Type 0} (left : I → Option Text) (r : Result Answer InputFault) (g : Goal) (names : List Text) (files : Option Contents) (loads : Counts) (old new : I) →
    IfOk r (λ answer. AnswersRun (run_behind g []) (left old) answer.status answer.text.items) → ReadsRun left g [] (status_of_answer r) old new →
    ReadsFarEnough left (Some (form.Input g)) (told (Some (form.Input g)) names (left old) files) loads (status_of_answer r) old new
input_reads {I} left r g names files loads old new answers reads = record {
  read_far_enough = λ read kept. told_input (left old) (λ given. reads.far_enough read kept);
  read_fault_undecided = λ is unloaded. told_input (left old) (λ given. reads.undecided is);
  read_no_further = told_input (left old) (λ given. reads.no_further);
  read_to_end = λ done. told_input (left old) (λ given. by_goal g given reads.to_end done);
  usage_reads_nothing = λ is. absurd (never_usage r (of_run _ _ r answers) is);
  unheard_is_unread = told_input (left old) (λ given unheard. absurd (let wrong : ⊥ = cc in wrong));
  bad_file_reads_nothing = λ why is. absurd (no_fault r (of_run _ _ r answers) why is);
}
  where
    by_goal : (g : Goal) (given : Given) → (IsTrue (is_for_report g) → status_of_answer r ≡ status.Done → EndsWhereTold (left old) (left new)) → status_of_answer r ≡ status.Done →
        IfSome (reported (Some (form.Input g)) given) (λ all. EndsWhereTold (left old) (left new))
    by_goal goal.Run given ends done = ends refl done
    by_goal goal.Pairs given ends done = tt
    by_goal goal.Feasible given ends done = tt

-- The words `run CALL REGISTER`.

abbrev with_files : List (Option Text) → Text → Given
with_files files bytes = record { input = bytes; files = files }

-- where files are told, what they open a call with settles what is given
where_opened : (names : List Text) (input : Option Text) (files : Option Contents) (P : Given → Type 0) →
    IfSome files (λ files. IfSome (told_behind (opening_of (held names files)) input (held names files)) P) → IfSome (told (Some form.Opened) names input files) P
where_opened names input None P h = tt
where_opened names input (Some files) P h = h

-- what is given behind opening lines
where_lines : (lines : Lines) (input : Option Text) (files : List (Option Text)) (P : Given → Type 0) → opening_of files ≡ Ok lines →
    IfSome (input_behind lines input) (λ bytes. P (with_files files bytes)) → IfSome (told_behind (opening_of files) input files) P
where_lines lines input files P opens h = subst (λ opening. IfSome (told_behind opening input files) P) (sym opens) (mapped (input_behind lines input) h)
  where
    mapped : (o : Option Text) → IfSome o (λ bytes. P (record { input = bytes; files = files })) → IfSome (option_map (λ bytes. record { input = bytes; files = files }) o) P
    mapped None h = tt
    mapped (Some bytes) h = h

-- what is given where the files open no run
where_refused : (s : Status) (input : Option Text) (files : List (Option Text)) (P : Given → Type 0) → opening_of files ≡ Err s → P (with_files files []) →
    IfSome (told_behind (opening_of files) input files) P
where_refused s input files P opens h = subst (λ opening. IfSome (told_behind opening input files) P) (sym opens) h

-- the answer of a run behind opening lines is the answer to the words
lines_answer_to : (lines : Lines) (files : List (Option Text)) (bytes : Text) (s : Status) (text : Text) → opening_of files ≡ Ok lines → IsAnswerOfRun (opened_run lines) bytes s text →
    IsAnswerTo (Some form.Opened) (with_files files bytes) s text
unfolding due_status
lines_answer_to lines files bytes s text opens answer = record {
  ends = answer.ends ∙ sym (ap (λ opening. status_opened opening bytes) opens);
  writes = subst (λ opening. IsTextOpened opening bytes text) (sym opens) answer.writes;
  of_call = λ done. subst (λ opening. IfSome (reported_by opening bytes) AreOfCall) (sym opens) (answer.of_call refl done);
}

-- the answer where the files open no run
refused_answer_to : (t : Status) (files : List (Option Text)) (s : Status) (text : Text) → opening_of files ≡ Err t → s ≡ t → text ≡ text_without_run t →
    IsAnswerTo (Some form.Opened) (with_files files []) s text
unfolding due_status
refused_answer_to t files s text opens is writes = record {
  ends = is ∙ sym (ap (λ opening. status_opened opening []) opens);
  writes = subst (λ opening. IsTextOpened opening [] text) (sym opens) writes;
  of_call = λ done. subst (λ opening. IfSome (reported_by opening []) AreOfCall) (sym opens) tt;
}

mapped_some : {A : Type 0} {P Q : A → Type 0} (o : Option A) → IfSome o P → ((x : A) → P x → Q x) → IfSome o Q
mapped_some None p h = tt
mapped_some (Some x) p h = h x p

pub lines_answers : (lines : Lines) (names : List Text) (input : Option Text) (files : Option Contents) (s : Status) (text : Text) →
    IfSome files (λ files. opening_of (held names files) ≡ Ok lines) → AnswersRun (opened_run lines) (input_behind lines input) s text →
    Answers (Some form.Opened) (told (Some form.Opened) names input files) s text
lines_answers lines names input files s text opens answers = record {
  answered = run_answered s answers.answered;
  as_due = where_opened names input files (λ given. IsAnswerTo (Some form.Opened) given s text) (mapped_some files opens (λ files opens.
      where_lines lines input (held names files) (λ given. IsAnswerTo (Some form.Opened) given s text) opens
      (mapped_some (input_behind lines input) answers.as_run (λ bytes answer. lines_answer_to lines (held names files) bytes s text opens answer))));
}

pub refused_answers : (t : Status) (names : List Text) (input : Option Text) (files : Option Contents) (s : Status) (text : Text) →
    IfSome files (λ files. opening_of (held names files) ≡ Err t) → IsAnswered t → s ≡ t → text ≡ text_without_run t →
    Answers (Some form.Opened) (told (Some form.Opened) names input files) s text
refused_answers t names input files s text opens answered is writes = record {
  answered = subst IsAnswered (sym is) answered;
  as_due = where_opened names input files (λ given. IsAnswerTo (Some form.Opened) given s text) (mapped_some files opens (λ files opens.
      where_refused t input (held names files) (λ given. IsAnswerTo (Some form.Opened) given s text) opens
      (refused_answer_to t (held names files) s text opens is writes)));
}

-- Why the words fail, and where they are told to be too long.

opened_long : (r : Result Answer InputFault) (lines : Lines) (ends : Bool) (input : Option Text) → ends_run goal.Run lines ≡ ends →
    IfOk r (λ answer. AnswersRun (opened_run lines) (input_behind lines input) answer.status answer.text.items) → status_of_answer r ≡ status.TooLong → IfSome input (λ input. is_over input ≡ true)
opened_long r lines ends None is answers long = tt
opened_long (Err faults.Failed) lines ends (Some input) is answers long = absurd (let wrong : ⊥ = cc in wrong)
opened_long (Err faults.Memory) lines ends (Some input) is answers long = absurd (let wrong : ⊥ = cc in wrong)
opened_long (Ok answer) lines true (Some input) is answers long =
    let answer_is = subst (λ b. IfSome (cond b (Some []) (Some input)) (λ bytes. IsAnswerOfRun (record { goal = goal.Run; opening = lines; hears = not b; reports = true }) bytes answer.status answer.text.items)) is answers.as_run in
    absurd (never_over (end_of goal.Run lines) (sym answer_is.ends ∙ long))
opened_long (Ok answer) lines false (Some input) is answers long =
    let answer_is = subst (λ b. IfSome (cond b (Some []) (Some input)) (λ bytes. IsAnswerOfRun (record { goal = goal.Run; opening = lines; hears = not b; reports = true }) bytes answer.status answer.text.items)) is answers.as_run in
    outcome_over goal.Run lines input (sym answer_is.ends ∙ long)

pub lines_caused : (r : Result Answer InputFault) (lines : Lines) (given : Option Given) (input : Option Text) (reads loads : Counts) →
    IfOk r (λ answer. AnswersRun (opened_run lines) (input_behind lines input) answer.status answer.text.items) → (r ≡ Err faults.Failed → Rose reads.0 reads.1) →
    IsCaused (Some form.Opened) given input (status_of_answer r) reads loads
lines_caused r lines given input reads loads answers failed = record {
  read_fault = λ is. inl (failed (only_failed r (of_run _ _ r answers) is));
  too_long = λ long unloaded. mapped_some input (opened_long r lines (ends_run goal.Run lines) input refl answers long) (λ input over. inr over);
  bad_file = λ why is. absurd (no_fault r (of_run _ _ r answers) why is);
}

due_long : (files : List (Option Text)) → opening_of files ≡ Err status.TooLong → due_status (Some form.Opened) (with_files files []) ≡ status.TooLong
unfolding due_status
due_long files opens = ap (λ opening. status_opened opening []) opens

-- the files of the call are told to be too long, or their count rose
long_caused : (names : List Text) (input : Option Text) (files : Option Contents) (reads loads : Counts) → IfSome files (λ files. opening_of (held names files) ≡ Err status.TooLong) →
    (files ≡ None → Rose loads.0 loads.1) → IsCaused (Some form.Opened) (told (Some form.Opened) names input files) input status.TooLong reads loads
long_caused names input files reads loads opens rose = record {
  read_fault = λ is. absurd (let wrong : ⊥ = cc in wrong);
  too_long = λ long unloaded. by_files files opens rose unloaded;
  bad_file = λ why is. absurd (let wrong : ⊥ = cc in wrong);
}
  where
    some_long : (input : Option Text) (files : List (Option Text)) → opening_of files ≡ Err status.TooLong →
        IsSomeAnd (told_behind (opening_of files) input files) (λ given. due_status (Some form.Opened) given ≡ status.TooLong)
    some_long input files opens = subst (λ opening. IsSomeAnd (told_behind opening input files) (λ given. due_status (Some form.Opened) given ≡ status.TooLong)) (sym opens) (due_long files opens)

    for_input : (input : Option Text) {P : Text → Type 0} → ((bytes : Text) → P bytes) → IfSome input P
    for_input None h = tt
    for_input (Some bytes) h = h bytes

    by_files : (files : Option Contents) → IfSome files (λ files. opening_of (held names files) ≡ Err status.TooLong) → (files ≡ None → Rose loads.0 loads.1) → (Rose loads.0 loads.1 → ⊥) →
        IfSome input (λ bytes. IsSomeAnd (told (Some form.Opened) names input files) (λ given. due_status (Some form.Opened) given ≡ status.TooLong) ⊎ (is_over bytes ≡ true))
    by_files None opens rose unloaded = absurd (unloaded (rose refl))
    by_files (Some files) opens rose unloaded = for_input input (λ bytes. inl (some_long input (held names files) opens))

bad_caused : (why : Bad) (given : Option Given) (input : Option Text) (reads loads : Counts) → OpensNone why → IsCaused (Some form.Opened) given input (status.BadFile why) reads loads
bad_caused why given input reads loads none = record {
  read_fault = λ is. absurd (let wrong : ⊥ = cc in wrong);
  too_long = λ is. absurd (let wrong : ⊥ = cc in wrong);
  bad_file = λ other is. subst OpensNone (let same : why ≡ other = cc in same) none;
}

pub fault_caused : (fault : InputFault) (given : Option Given) (input : Option Text) (reads loads : Counts) → (fault ≡ faults.Failed → Rose loads.0 loads.1) →
    IsCaused (Some form.Opened) given input (status_of_answer (Err fault)) reads loads
fault_caused faults.Failed given input reads loads failed = record {
  read_fault = λ is. inr (failed refl);
  too_long = λ is. absurd (let wrong : ⊥ = cc in wrong);
  bad_file = λ why is. absurd (let wrong : ⊥ = cc in wrong);
}
fault_caused faults.Memory given input reads loads failed = record {
  read_fault = λ is. absurd (let wrong : ⊥ = cc in wrong);
  too_long = λ is. absurd (let wrong : ⊥ = cc in wrong);
  bad_file = λ why is. absurd (let wrong : ⊥ = cc in wrong);
}

-- How far the input is read.

for_some : {A : Type 0} (o : Option A) {P : A → Type 0} → ((x : A) → P x) → IfSome o P
for_some None h = tt
for_some (Some x) h = h x

-- what holds of the hearing behind an opening holds of what is given
where_heard : (opening : Result Lines Status) (names : List Text) (input : Option Text) (files : Option Contents) (Q : Option (Goal × Lines) → Type 0) →
    IfSome files (λ files. opening_of (held names files) ≡ opening) → Q (heard_by opening) → IfSome (told (Some form.Opened) names input files) (λ given. Q (hears (Some form.Opened) given))
where_heard (Ok lines) names input files Q opens h = where_opened names input files (λ given. Q (hears (Some form.Opened) given)) (mapped_some files opens (λ files opens.
    where_lines lines input (held names files) (λ given. Q (hears (Some form.Opened) given)) opens
    (for_some (input_behind lines input) (λ bytes. subst (λ opening. Q (heard_by opening)) (sym opens) h))))
where_heard (Err s) names input files Q opens h = where_opened names input files (λ given. Q (hears (Some form.Opened) given)) (mapped_some files opens (λ files opens.
    where_refused s input (held names files) (λ given. Q (hears (Some form.Opened) given)) opens (subst (λ opening. Q (heard_by opening)) (sym opens) h)))

heard_lines : (lines : Lines) (ends : Bool) → ends_run goal.Run lines ≡ ends → heard_by (Ok lines) ≡ cond ends None (Some (goal.Run, lines))
heard_lines lines true is = ap (λ b. cond (not b) (Some (goal.Run, lines)) None) is
heard_lines lines false is = ap (λ b. cond (not b) (Some (goal.Run, lines)) None) is

-- where an opening line ends the run, nothing is heard of the input
ended_reads : {I : Type 0} (left : I → Option Text) (r : Result Answer InputFault) (lines : Lines) (names : List Text) (files : Option Contents) (loads : Counts) (old new : I) →
    ends_run goal.Run lines ≡ true → IfSome files (λ files. opening_of (held names files) ≡ Ok lines) → IfOk r (λ answer. IsOfRun answer.status) → ReadsOpened left lines (status_of_answer r) old new →
    ReadsFarEnough left (Some form.Opened) (told (Some form.Opened) names (left old) files) loads (status_of_answer r) old new
ended_reads {I} left r lines names files loads old new ends opens of reads =
    let none = heard_lines lines true ends in
    let done = reads.ended ends in
    record {
      read_far_enough = λ read kept. where_heard (Ok lines) names (left old) files (λ h. IfSome h (λ h. DecidedWhereTold h.0 h.1 (left old) (left new))) opens
          (subst (λ h. IfSome h (λ h. DecidedWhereTold h.0 h.1 (left old) (left new))) (sym none) tt);
      read_fault_undecided = λ is. absurd (done.1 is);
      read_no_further = where_heard (Ok lines) names (left old) files (λ h. IfSome h (λ h. NoFurtherWhereTold h.0 h.1 (left old) (left new))) opens
          (subst (λ h. IfSome h (λ h. NoFurtherWhereTold h.0 h.1 (left old) (left new))) (sym none) tt);
      read_to_end = λ is. absurd (done.2 is);
      usage_reads_nothing = λ is. absurd (never_usage r of is);
      unheard_is_unread = for_some (told (Some form.Opened) names (left old) files) (λ given unheard. done.0);
      bad_file_reads_nothing = λ why is other. done.0;
    }

-- where the run goes on, the input is heard behind the opening lines
going_reads : {I : Type 0} (left : I → Option Text) (r : Result Answer InputFault) (lines : Lines) (names : List Text) (files : Option Contents) (loads : Counts) (old new : I) →
    ends_run goal.Run lines ≡ false → IfSome files (λ files. opening_of (held names files) ≡ Ok lines) → IfOk r (λ answer. IsOfRun answer.status) → ReadsOpened left lines (status_of_answer r) old new →
    ReadsFarEnough left (Some form.Opened) (told (Some form.Opened) names (left old) files) loads (status_of_answer r) old new
going_reads {I} left r lines names files loads old new ends opens of reads =
    let some = heard_lines lines false ends in
    let run = reads.going ends in
    record {
      read_far_enough = λ read kept. where_heard (Ok lines) names (left old) files (λ h. IfSome h (λ h. DecidedWhereTold h.0 h.1 (left old) (left new))) opens
          (subst (λ h. IfSome h (λ h. DecidedWhereTold h.0 h.1 (left old) (left new))) (sym some) (run.far_enough read kept));
      read_fault_undecided = λ is unloaded. where_heard (Ok lines) names (left old) files (λ h. IsSomeAnd h (λ h. UndecidedWhereTold h.0 h.1 (left old) (left new))) opens
          (subst (λ h. IsSomeAnd h (λ h. UndecidedWhereTold h.0 h.1 (left old) (left new))) (sym some) (run.undecided is));
      read_no_further = where_heard (Ok lines) names (left old) files (λ h. IfSome h (λ h. NoFurtherWhereTold h.0 h.1 (left old) (left new))) opens
          (subst (λ h. IfSome h (λ h. NoFurtherWhereTold h.0 h.1 (left old) (left new))) (sym some) run.no_further);
      read_to_end = λ is. for_some (told (Some form.Opened) names (left old) files) (λ given. for_some (reported (Some form.Opened) given) (λ all. run.to_end refl is));
      usage_reads_nothing = λ is. absurd (never_usage r of is);
      unheard_is_unread = where_heard (Ok lines) names (left old) files (λ h. h ≡ None → new ≡ old) opens
          (subst (λ h. h ≡ None → new ≡ old) (sym some) (λ none. absurd (let wrong : Some (goal.Run, lines) ≡ None = none in cc)));
      bad_file_reads_nothing = λ why is. absurd (no_fault r of why is);
    }

pub lines_reads : {I : Type 0} (left : I → Option Text) (r : Result Answer InputFault) (lines : Lines) (names : List Text) (files : Option Contents) (loads : Counts) (old new : I) →
    IfSome files (λ files. opening_of (held names files) ≡ Ok lines) → IfOk r (λ answer. AnswersRun (opened_run lines) (input_behind lines (left old)) answer.status answer.text.items) →
    ReadsOpened left lines (status_of_answer r) old new →
    ReadsFarEnough left (Some form.Opened) (told (Some form.Opened) names (left old) files) loads (status_of_answer r) old new
lines_reads {I} left r lines names files loads old new opens answers reads = by_end (ends_run goal.Run lines) refl
  where
    by_end : (ends : Bool) → ends_run goal.Run lines ≡ ends → ReadsFarEnough left (Some form.Opened) (told (Some form.Opened) names (left old) files) loads (status_of_answer r) old new
    by_end true ends = ended_reads left r lines names files loads old new ends opens (of_run _ _ r answers) reads
    by_end false ends = going_reads left r lines names files loads old new ends opens (of_run _ _ r answers) reads

-- Where nothing of the input is taken.

-- the hearing behind an opening, of an input of which nothing is taken
unread_further : {I : Type 0} (left : I → Option Text) (names : List Text) (files : Option Contents) (old : I) →
    IfSome (told (Some form.Opened) names (left old) files) (λ given. IfSome (hears (Some form.Opened) given) (λ h. NoFurtherWhereTold h.0 h.1 (left old) (left old)))
unread_further {I} left names files old = for_some (told (Some form.Opened) names (left old) files) (λ given. by_opening (opening_of given.files))
  where
    by_end : (lines : Lines) (ends : Bool) → ends_run goal.Run lines ≡ ends → IfSome (heard_by (Ok lines)) (λ h. NoFurtherWhereTold h.0 h.1 (left old) (left old))
    by_end lines true is = subst (λ h. IfSome h (λ h. NoFurtherWhereTold h.0 h.1 (left old) (left old))) (sym (heard_lines lines true is)) tt
    by_end lines false is = subst (λ h. IfSome h (λ h. NoFurtherWhereTold h.0 h.1 (left old) (left old))) (sym (heard_lines lines false is)) (nothing_further goal.Run lines (left old) is)

    by_opening : (opening : Result Lines Status) → IfSome (heard_by opening) (λ h. NoFurtherWhereTold h.0 h.1 (left old) (left old))
    by_opening (Ok lines) = by_end lines (ends_run goal.Run lines) refl
    by_opening (Err s) = by_error s where
      by_error : (s : Status) → IfSome (heard_by (Err s)) (λ h. NoFurtherWhereTold h.0 h.1 (left old) (left old))
      by_error s = tt

-- where the files open no run, nothing is read
refused_reads : {I : Type 0} (left : I → Option Text) (t : Status) (names : List Text) (files : Option Contents) (loads : Counts) (old : I) →
    IfSome files (λ files. opening_of (held names files) ≡ Err t) → IsAnswered t → (t ≡ status.Done → ⊥) →
    ReadsFarEnough left (Some form.Opened) (told (Some form.Opened) names (left old) files) loads t old old
refused_reads {I} left t names files loads old opens answered not_done = record {
  read_far_enough = λ read kept. where_heard (Err t) names (left old) files (λ h. IfSome h (λ h. DecidedWhereTold h.0 h.1 (left old) (left old))) opens (unheard t);
  read_fault_undecided = λ is. absurd (subst IsAnswered is answered);
  read_no_further = unread_further left names files old;
  read_to_end = λ is. absurd (not_done is);
  usage_reads_nothing = λ is. refl;
  unheard_is_unread = for_some (told (Some form.Opened) names (left old) files) (λ given unheard. refl);
  bad_file_reads_nothing = λ why is other. refl;
}
  where
    unheard : (t : Status) → IfSome (heard_by (Err t)) (λ h. DecidedWhereTold h.0 h.1 (left old) (left old))
    unheard t = tt

-- where there is no answer since a file could not be loaded, or for want of memory, nothing is read
pub fault_reads : {I : Type 0} (left : I → Option Text) (fault : InputFault) (names : List Text) (files : Option Contents) (loads : Counts) (old : I) →
    (fault ≡ faults.Failed → Rose loads.0 loads.1) → ReadsFarEnough left (Some form.Opened) (told (Some form.Opened) names (left old) files) loads (status_of_answer (Err fault)) old old
fault_reads {I} left faults.Failed names files loads old failed = record {
  read_far_enough = λ read kept. absurd (read refl);
  read_fault_undecided = λ is unloaded. absurd (unloaded (failed refl));
  read_no_further = unread_further left names files old;
  read_to_end = λ is. absurd (let wrong : ⊥ = cc in wrong);
  usage_reads_nothing = λ is. refl;
  unheard_is_unread = for_some (told (Some form.Opened) names (left old) files) (λ given unheard. refl);
  bad_file_reads_nothing = λ why is other. refl;
}
fault_reads {I} left faults.Memory names files loads old failed = record {
  read_far_enough = λ read kept. absurd (kept refl);
  read_fault_undecided = λ is. absurd (let wrong : ⊥ = cc in wrong);
  read_no_further = unread_further left names files old;
  read_to_end = λ is. absurd (let wrong : ⊥ = cc in wrong);
  usage_reads_nothing = λ is. refl;
  unheard_is_unread = for_some (told (Some form.Opened) names (left old) files) (λ given unheard. refl);
  bad_file_reads_nothing = λ why is other. refl;
}

-- Of files that are opened.

opened_as : (names : List Text) (files : Option Contents) (o : Opened) (p : Opened) → o ≡ p → IfSome files (λ files. IsOpened (opening_of (held names files)) o) →
    IfSome files (λ files. IsOpened (opening_of (held names files)) p)
opened_as names files o p is opens = subst (λ p. IfSome files (λ files. IsOpened (opening_of (held names files)) p)) is opens

pub opens_lines : (names : List Text) (files : Option Contents) (o : Opened) (lines : Lines) → o ≡ opened.Lines lines → IfSome files (λ files. IsOpened (opening_of (held names files)) o) →
    IfSome files (λ files. opening_of (held names files) ≡ Ok lines)
opens_lines names files o lines is opens = opened_as names files o (opened.Lines lines) is opens

pub opens_bad : (names : List Text) (files : Option Contents) (o : Opened) (why : Bad) → o ≡ opened.Bad why → IfSome files (λ files. IsOpened (opening_of (held names files)) o) →
    IfSome files (λ files. opening_of (held names files) ≡ Err (status.BadFile why))
opens_bad names files o why is opens = opened_as names files o (opened.Bad why) is opens

pub opens_long : (names : List Text) (files : Option Contents) (o : Opened) → o ≡ opened.TooLong → IfSome files (λ files. IsOpened (opening_of (held names files)) o) →
    IfSome files (λ files. opening_of (held names files) ≡ Err status.TooLong)
opens_long names files o is opens = opened_as names files o opened.TooLong is opens

pub few_lines : (o : Opened) (lines : Lines) → o ≡ opened.Lines lines → HasFewLines o → HasFewLines (opened.Lines lines)
few_lines o lines is few = subst HasFewLines is few

pub all_answers : (r : Result Answer InputFault) (lines : Lines) (names : List Text) (input : Option Text) (files : Option Contents) → IfSome files (λ files. opening_of (held names files) ≡ Ok lines) →
    IfOk r (λ answer. AnswersRun (opened_run lines) (input_behind lines input) answer.status answer.text.items) →
    IfOk r (λ answer. Answers (Some form.Opened) (told (Some form.Opened) names input files) answer.status answer.text.items)
all_answers (Ok answer) lines names input files opens answers = lines_answers lines names input files answer.status answer.text.items opens answers
all_answers (Err fault) lines names input files opens answers = tt

pub kept : {F : Type 0} (shown : F → Option Contents) (name : Text) (names : List Text) (old new : F) → shown new ≡ shown old → KeepsFiles shown (name ∷ names) old new
kept {F} shown name names old new same = record { files_unchanged = same; shelf_unchanged = λ none. absurd (let wrong : name ∷ names ≡ [] = none in cc) }

-- The same of an answer with the status.

pub bad_answer_caused : (s : Status) (o : Opened) (why : Bad) (given : Option Given) (input : Option Text) (reads loads : Counts) → s ≡ status.BadFile why → o ≡ opened.Bad why → IsBadOpening o →
    IsCaused (Some form.Opened) given input s reads loads
bad_answer_caused s o why given input reads loads is opens none =
    subst (λ s. IsCaused (Some form.Opened) given input s reads loads) (sym is) (bad_caused why given input reads loads (subst IsBadOpening opens none))

pub long_answer_caused : (s : Status) (names : List Text) (input : Option Text) (files : Option Contents) (reads loads : Counts) → s ≡ status.TooLong →
    IfSome files (λ files. opening_of (held names files) ≡ Err status.TooLong) → (files ≡ None → Rose loads.0 loads.1) →
    IsCaused (Some form.Opened) (told (Some form.Opened) names input files) input s reads loads
long_answer_caused s names input files reads loads is opens rose =
    subst (λ s. IsCaused (Some form.Opened) (told (Some form.Opened) names input files) input s reads loads) (sym is) (long_caused names input files reads loads opens rose)

pub refused_answer_reads : {I : Type 0} (left : I → Option Text) (s t : Status) (names : List Text) (files : Option Contents) (loads : Counts) (old : I) → s ≡ t →
    IfSome files (λ files. opening_of (held names files) ≡ Err t) → IsAnswered t → (t ≡ status.Done → ⊥) →
    ReadsFarEnough left (Some form.Opened) (told (Some form.Opened) names (left old) files) loads s old old
refused_answer_reads {I} left s t names files loads old is opens answered not_done =
    subst (λ s. ReadsFarEnough left (Some form.Opened) (told (Some form.Opened) names (left old) files) loads s old old) (sym is) (refused_reads left t names files loads old opens answered not_done)

-- What holds of the form that was asked for.

pub form_answers : (f p : Form) (r : Result Answer InputFault) (names : List Text) (input : Option Text) (files : Option Contents) → f ≡ p →
    IfOk r (λ answer. Answers (Some p) (told (Some p) names input files) answer.status answer.text.items) →
    IfOk r (λ answer. Answers (Some f) (told (Some f) names input files) answer.status answer.text.items)
form_answers f p r names input files is answers = subst (λ f. IfOk r (λ answer. Answers (Some f) (told (Some f) names input files) answer.status answer.text.items)) (sym is) answers

pub form_caused : (f p : Form) (s : Status) (names : List Text) (input : Option Text) (files : Option Contents) (reads loaded : Counts) → f ≡ p →
    IsCaused (Some p) (told (Some p) names input files) input s reads loaded → IsCaused (Some f) (told (Some f) names input files) input s reads loaded
form_caused f p s names input files reads loaded is caused = subst (λ f. IsCaused (Some f) (told (Some f) names input files) input s reads loaded) (sym is) caused

pub form_reads : {I : Type 0} (left : I → Option Text) (f p : Form) (s : Status) (names : List Text) (input : Option Text) (files : Option Contents) (loaded : Counts) (old new : I) → f ≡ p →
    ReadsFarEnough left (Some p) (told (Some p) names input files) loaded s old new → ReadsFarEnough left (Some f) (told (Some f) names input files) loaded s old new
form_reads {I} left f p s names input files loaded old new is reads = subst (λ f. ReadsFarEnough left (Some f) (told (Some f) names input files) loaded s old new) (sym is) reads

pub form_files : {F : Type 0} (shown : F → Option Contents) (f p : Form) (names : List Text) (old new : F) → f ≡ p → KeepsFiles shown (loads (Some p) names) old new → KeepsFiles shown (loads (Some f) names) old new
form_files {F} shown f p names old new is kept = subst (λ f. KeepsFiles shown (loads (Some f) names) old new) (sym is) kept

pub input_result : (r : Result Answer InputFault) (g : Goal) (names : List Text) (input : Option Text) (files : Option Contents) → IfOk r (λ answer. AnswersRun (run_behind g []) input answer.status answer.text.items) →
    IfOk r (λ answer. Answers (Some (form.Input g)) (told (Some (form.Input g)) names input files) answer.status answer.text.items)
input_result (Ok answer) g names input files answers = input_answers g names input files answer.status answer.text.items answers
input_result (Err fault) g names input files answers = tt

-- the facts of other names
pub named_answers : (f : Form) (r : Result Answer InputFault) (names these : List Text) (input : Option Text) (files : Option Contents) → names ≡ these →
    IfOk r (λ answer. Answers (Some f) (told (Some f) these input files) answer.status answer.text.items) →
    IfOk r (λ answer. Answers (Some f) (told (Some f) names input files) answer.status answer.text.items)
named_answers f r names these input files is answers =
    subst (λ names. IfOk r (λ answer. Answers (Some f) (told (Some f) names input files) answer.status answer.text.items)) (sym is) answers

pub named_caused : (f : Form) (s : Status) (names these : List Text) (input : Option Text) (files : Option Contents) (reads loaded : Counts) → names ≡ these →
    IsCaused (Some f) (told (Some f) these input files) input s reads loaded → IsCaused (Some f) (told (Some f) names input files) input s reads loaded
named_caused f s names these input files reads loaded is caused = subst (λ names. IsCaused (Some f) (told (Some f) names input files) input s reads loaded) (sym is) caused

pub named_reads : {I : Type 0} (left : I → Option Text) (f : Form) (s : Status) (names these : List Text) (input : Option Text) (files : Option Contents) (loaded : Counts) (old new : I) → names ≡ these →
    ReadsFarEnough left (Some f) (told (Some f) these input files) loaded s old new → ReadsFarEnough left (Some f) (told (Some f) names input files) loaded s old new
named_reads {I} left f s names these input files loaded old new is reads = subst (λ names. ReadsFarEnough left (Some f) (told (Some f) names input files) loaded s old new) (sym is) reads

pub named_files : {F : Type 0} (shown : F → Option Contents) (names these : List Text) (old new : F) → names ≡ these → KeepsFiles shown these old new → KeepsFiles shown names old new
named_files {F} shown names these old new is kept = subst (λ names. KeepsFiles shown names old new) (sym is) kept
