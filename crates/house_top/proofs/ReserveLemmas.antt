-- The answers to the words that tell who moves up where some withdraw.
use Rattle.std.proofs.Common.{◌≡◌, ◌⊎◌, ◌≤◌, ◌<◌, ℕ, true, false, cond, ◌++◌, [], ◌∷◌, List, Option, Some, None, Result, Ok, Err, length, codes, refl, sym, ap, ◌∙◌, subst, inl, inr}
use Rattle.std.specs.Prelude.{IfOk, IfSome, IsSomeAnd, MatchOption, option_and_then}
use Rattle.std.specs.FinMap.{get}
use Rattle.std.specs.Option.{option_map}
use Rattle.std.specs.Result.{result_ok}
use Rattle.house_io.specs.Faults.{Rose}
use Rattle.house_io.specs.Files.{Contents, IsLonger}
use Rattle.house_base.specs.declared.answer.Reason.{Reason}
use Rattle.house_base.specs.Text.{Text}
use Rattle.house_model.specs.declared.goal.Goal.{Goal}
use Rattle.house_model.specs.declared.goal.Goal.TheVariants as goal
use Rattle.house_model.specs.declared.limits.TheConstants.{MOST_BYTES}
use Rattle.house_model.specs.Headline.{AreOfCall}
use Rattle.house_model.specs.Heard.{heard, is_over}
use Rattle.house_model.specs.Report.{line_of}
use Rattle.house_model.specs.Runs.{ends_run, report_of}
use Rattle.house_model.specs.Text.{Lines}
use Rattle.house_model.proofs.HeadlineLemmas.{counted, isolated}
use Rattle.house_top.specs.declared.answer.Answer.{Answer}
use Rattle.house_top.specs.declared.bad.Bad.{Bad}
use Rattle.house_top.specs.declared.form.Form.{Form}
use Rattle.house_top.specs.declared.form.Form.TheVariants as form
use Rattle.house_top.specs.declared.status.Status.{Status}
use Rattle.house_top.specs.declared.status.Status.TheVariants as status
use Rattle.house_top.specs.Answer.{Answers, AnswersRun, IsAnswerOfRun, IsAnswerTo, IsAnswered, IsEndAnswer, IsOfRun, ReadsRun, status_of_answer}
use Rattle.house_top.specs.Due.{IsDueText, IsTextLeft, IsTextOfRun, IsTextReserved, Run, due_status, hears, leaving_asked, lines_of, reported, run_behind, status_left, status_of_run, status_reserved}
use Rattle.house_top.specs.Given.{Given, files_alone, held, told, told_with_file}
use Rattle.house_top.specs.Leaving.{BeginsWithReport, IsLeaving, status_of_reserve, text_of_reserve}
use Rattle.house_top.specs.Opening.{file_at, loaded}
use Rattle.house_top.specs.Promise.{Counts, IsCaused, KeepsFiles, ReadsFarEnough}
use Rattle.house_top.specs.Refused.{text_without_run}
use Rattle.house_top.specs.Reserved.{AnswersReserve, EndsReserve, IsBehind, IsReserveHeard, TellsReserve}
use Rattle.house_top.proofs.AnswerLemmas.{goes_to_report, input_answer}
use Rattle.house_top.proofs.FormLemmas.{long_input, run_answered}
use Rattle.house_top.proofs.LoadLemmas.{loaded_long, loaded_short}
use Rattle.house_top.proofs.ReadLemmas.{nothing_further, reads_answer}
use Rattle.input_run.specs.declared.fault.InputFault.{InputFault}
use Rattle.input_run.specs.declared.fault.InputFault.TheVariants as faults
use Rattle.input_run.specs.declared.input.Heard.{Heard}
use Rattle.input_run.specs.declared.input.Heard.TheVariants as what
use Rattle.input_run.specs.declared.line_run.LineRun.{LineRun}
use Rattle.input_run.specs.Hearing.{HasLines, HearsWhereTold, TellsEnd}
use Rattle.input_run.proofs.EndLemmas.{goes_on}
use Rattle.input_run.proofs.HearLemmas.{go_on-none}
use Rattle.input_run.specs.Input.{DecidedWhereTold, EndsWhereTold, NoFurtherWhereTold, UndecidedWhereTold}
use Rattle.reserve_list.specs.Told.{PassesSeatsOn, reserve_told}
use Rattle.reserve_list.proofs.ToldLemmas.{seats-passed_on}
use Rattle.reserve_text.specs.declared.text.Reserve.{Reserve}
use Rattle.reserve_text.specs.declared.text.Reserve.TheVariants as reserve
use Rattle.reserve_text.specs.Reserve.{IsReserve}

-- The answer of a run that has come to its report.

pub text_told : (r : Result Text (ℕ × Reason)) (a : Answer) (text : Text) → r ≡ Ok text → a.status ≡ status.Done → a.text.items ≡ text →
    (a.status ≡ status_of_reserve r) × (a.text.items ≡ text_of_reserve r)
text_told r a text told ends writes = (ends ∙ sym (ap status_of_reserve told), writes ∙ sym (ap text_of_reserve told))

pub bad_told : (r : Result Text (ℕ × Reason)) (s : Status) (t : Text) (fault : ℕ × Reason) → r ≡ Err fault → s ≡ status_of_reserve (Err fault) → t ≡ text_of_reserve (Err fault) →
    (s ≡ status_of_reserve r) × (t ≡ text_of_reserve r)
bad_told r s t fault told ends writes = (ends ∙ sym (ap status_of_reserve told), writes ∙ sym (ap text_of_reserve told))

-- what becomes of a file behind the report of a run that is done
pub tells_behind : {E : Type 0} (r : Result Answer E) (bytes : Text) (run : LineRun) (report : Answer) → ((lines : Lines) → HasLines goal.Run lines run → IsEndAnswer goal.Run lines report.status report.text.items) →
    report.status ≡ status.Done → ((lines : Lines) → HasLines goal.Run lines run → AreOfCall lines → IfOk r (λ a. a.status ≡ status_of_reserve (reserve_told bytes lines))) →
    ((lines : Lines) → HasLines goal.Run lines run → AreOfCall lines → IfOk r (λ a. a.text.items ≡ text_of_reserve (reserve_told bytes lines))) → IfOk r (TellsReserve bytes run)
tells_behind {E} (Err e) bytes run report answers is ends writes = tt
tells_behind {E} (Ok a) bytes run report answers is ends writes = (
  report,
  λ lines has. (
    answers lines has,
    record {
      ends = λ done. ends lines has ((answers lines has).of_call refl is);
      writes = λ done. writes lines has ((answers lines has).of_call refl is);
      same_ends = λ undone. absurd (undone is);
      same_writes = λ undone. absurd (undone is);
    },
  ),
)

-- What was heard of an input.

ends_reserve : (r : Result Text (ℕ × Reason)) → EndsReserve (status_of_reserve r)
ends_reserve (Ok text) = tt
ends_reserve (Err fault) = tt

pub reserve_heard : (bytes : Text) (before after : Option Text) (heard : Heard) (a : Answer) → HearsWhereTold goal.Run [] before after heard → IsReserveHeard bytes heard a → AnswersReserve bytes before a
reserve_heard bytes before after (what.Lines run) a (lines, has, few, tells) (report, told) = record {
  report = report;
  answers = input_answer goal.Run [] before after (what.Lines run) report.status report.text.items (lines, has, few, tells) (λ ls has. (told ls has).0);
  behind = of_input before after tells;
  done = λ done. subst EndsReserve (sym ((told lines has).1.ends done)) (ends_reserve (reserve_told bytes lines));
  unless_done = (told lines has).1.same_ends;
}
  where
    same_lines : (input rest : Text) → TellsEnd goal.Run [] input rest lines → report.status ≡ status.Done → heard input ≡ lines
    same_lines input rest tells done = (tells.all (goes_to_report lines ((told lines has).0.of_call refl done).done)).2

    of_input : (before after : Option Text) → IfSome before (λ input. IsSomeAnd after (λ rest. TellsEnd goal.Run [] input rest lines)) → IfSome before (λ input. IsBehind bytes (heard input) report a)
    of_input None after tells = tt
    of_input (Some input) None tells = absurd tells
    of_input (Some input) (Some rest) tells = record {
      ends = λ done. (told lines has).1.ends done ∙ ap (λ (ls : Lines). status_of_reserve (reserve_told bytes ls)) (sym (same_lines input rest tells done));
      writes = λ done. (told lines has).1.writes done ∙ ap (λ (ls : Lines). text_of_reserve (reserve_told bytes ls)) (sym (same_lines input rest tells done));
      same_ends = (told lines has).1.same_ends;
      same_writes = (told lines has).1.same_writes;
    }
reserve_heard bytes before after what.TooLong a over (is, text) = record {
  report = a;
  answers = input_answer goal.Run [] before after what.TooLong a.status a.text.items over (is, text);
  behind = of_input before;
  done = λ done. absurd (never done);
  unless_done = λ undone. refl;
}
  where
    never : a.status ≡ status.Done → ⊥
    never done = let wrong : status.TooLong ≡ status.Done = sym is ∙ done in cc

    of_input : (before : Option Text) → IfSome before (λ input. IsBehind bytes (heard input) a a)
    of_input None = tt
    of_input (Some input) = record { ends = λ done. absurd (never done); writes = λ done. absurd (never done); same_ends = λ undone. refl; same_writes = λ undone. refl }

-- how far is read where there is an answer
read_with : {I : Type 0} (left : I → Option Text) (s t : Status) (old new : I) → ReadsRun left goal.Run [] s old new → (t ≡ status.ReadFault → s ≡ status.ReadFault) → (t ≡ status.Done → s ≡ status.Done) →
    DecidedWhereTold goal.Run [] (left old) (left new) → ReadsRun left goal.Run [] t old new
read_with {I} left s t old new reads failed done decided = record {
  far_enough = λ read kept. decided;
  undecided = λ is. reads.undecided (failed is);
  no_further = reads.no_further;
  to_end = λ report is. reads.to_end report (done is);
}

-- an answer is behind a run that is done, or is that of its run
abbrev pub IsBehindOrOf : Answer → Answer → Type 0
IsBehindOrOf report a = ((report.status ≡ status.Done) × EndsReserve a.status) ⊎ ((report.status ≡ status.Done → ⊥) × (a.status ≡ report.status))

of_other : (s : Status) (report a : Answer) → report.status ≡ s → (s ≡ status.Done → ⊥) → ((report.status ≡ status.Done → ⊥) → a.status ≡ report.status) → IsBehindOrOf report a
of_other s report a is never other = inr (λ done. never (sym is ∙ done), other (λ done. never (sym is ∙ done)))

by_report : (s : Status) (report a : Answer) → report.status ≡ s → (report.status ≡ status.Done → EndsReserve a.status) → ((report.status ≡ status.Done → ⊥) → a.status ≡ report.status) → IsBehindOrOf report a
by_report status.Done report a is done other = inl (is, done is)
by_report status.Usage report a is done other = of_other status.Usage report a is (λ h. cc) other
by_report (status.Refused line reason) report a is done other = of_other (status.Refused line reason) report a is (λ h. cc) other
by_report status.Short report a is done other = of_other status.Short report a is (λ h. cc) other
by_report status.ReadFault report a is done other = of_other status.ReadFault report a is (λ h. cc) other
by_report status.WriteFault report a is done other = of_other status.WriteFault report a is (λ h. cc) other
by_report status.Memory report a is done other = of_other status.Memory report a is (λ h. cc) other
by_report status.TooLong report a is done other = of_other status.TooLong report a is (λ h. cc) other
by_report (status.BadFile why) report a is done other = of_other (status.BadFile why) report a is (λ h. cc) other
by_report (status.Differs row) report a is done other = of_other (status.Differs row) report a is (λ h. cc) other
by_report (status.Wrong worth) report a is done other = of_other (status.Wrong worth) report a is (λ h. cc) other

-- where the answer is done, the run is; and it is no fault
done_by : (report a : Answer) → IsBehindOrOf report a → a.status ≡ status.Done → report.status ≡ status.Done
done_by report a (inl behind) done = behind.0
done_by report a (inr of) done = sym of.1 ∙ done

no_fault_by : (report a : Answer) → IsBehindOrOf report a → IsOfRun report.status → a.status ≡ status.ReadFault → ⊥
no_fault_by report a (inl behind) of_run is = subst EndsReserve is behind.1
no_fault_by report a (inr of) of_run is = subst IsOfRun (sym of.1 ∙ is) of_run

behind_or_of : (bytes : Text) (input : Option Text) (a : Answer) (told : AnswersReserve bytes input a) → IsBehindOrOf told.report a
behind_or_of bytes input a told = by_report told.report.status told.report a refl told.done told.unless_done

-- where the answer is done, its run is
done_behind : (bytes : Text) (input : Option Text) (a : Answer) (told : AnswersReserve bytes input a) → a.status ≡ status.Done → told.report.status ≡ status.Done
done_behind bytes input a told done = done_by told.report a (behind_or_of bytes input a told) done

reserve_answered : (s : Status) → EndsReserve s → IsAnswered s
reserve_answered status.Done h = tt
reserve_answered status.Usage h = absurd h
reserve_answered (status.Refused line reason) h = absurd h
reserve_answered status.Short h = absurd h
reserve_answered status.ReadFault h = absurd h
reserve_answered status.WriteFault h = absurd h
reserve_answered status.Memory h = absurd h
reserve_answered status.TooLong h = absurd h
reserve_answered (status.BadFile why) h = tt
reserve_answered (status.Differs row) h = absurd h
reserve_answered (status.Wrong worth) h = absurd h

is_answered : (bytes : Text) (input : Option Text) (a : Answer) (told : AnswersReserve bytes input a) → IsAnswered a.status
is_answered bytes input a told = elim (behind_or_of bytes input a told) [
  | inl behind ↦ reserve_answered a.status behind.1
  | inr of ↦ subst IsAnswered (sym of.1) (run_answered told.report.status told.answers.answered)
]

no_fault : (bytes : Text) (input : Option Text) (a : Answer) → AnswersReserve bytes input a → a.status ≡ status.ReadFault → ⊥
no_fault bytes input a told is = subst IsAnswered is (is_answered bytes input a told)

pub reserve_heard_reads : {I : Type 0} (left : I → Option Text) (bytes : Text) (heard : Heard) (a : Answer) (old new : I) → HearsWhereTold goal.Run [] (left old) (left new) heard → IsReserveHeard bytes heard a →
    DecidedWhereTold goal.Run [] (left old) (left new) → NoFurtherWhereTold goal.Run [] (left old) (left new) → ReadsRun left goal.Run [] a.status old new
reserve_heard_reads {I} left bytes (what.Lines run) a old new (lines, has, few, tells) (report, told) decided no_further =
    let answers = input_answer goal.Run [] (left old) (left new) (what.Lines run) report.status report.text.items (lines, has, few, tells) (λ ls has. (told ls has).0) in
    let by = by_report report.status report a refl (λ done. subst EndsReserve (sym ((told lines has).1.ends done)) (ends_reserve (reserve_told bytes lines))) (told lines has).1.same_ends in
    read_with left report.status a.status old new
    (reads_answer left goal.Run [] (what.Lines run) report.status report.text.items old new answers.answered (lines, has, few, tells) (λ ls has. (told ls has).0) decided no_further)
    (λ is. absurd (no_fault_by report a by answers.answered is)) (done_by report a by) decided
reserve_heard_reads {I} left bytes what.TooLong a old new over (is, text) decided no_further =
    let answers = input_answer goal.Run [] (left old) (left new) what.TooLong a.status a.text.items over (is, text) in
    reads_answer left goal.Run [] what.TooLong a.status a.text.items old new answers.answered over (is, text) decided no_further

-- What is given, by what was loaded of the file.

abbrev with_files : List (Option Text) → Text → Given
with_files files input = record { input = input; files = files }

for_some : {A : Type 0} (o : Option A) {P : A → Type 0} → ((x : A) → P x) → IfSome o P
for_some None h = tt
for_some (Some x) h = h x

mapped_some : {A : Type 0} {P Q : A → Type 0} (o : Option A) → IfSome o P → ((x : A) → P x → Q x) → IfSome o Q
mapped_some None p h = tt
mapped_some (Some x) p h = h x p

where_given : (name : Text) (input : Option Text) (files : Option Contents) (P : Given → Type 0) →
    IfSome files (λ all. IfSome (told_with_file (loaded (file_at (held (name ∷ []) all) 0)) input (held (name ∷ []) all)) P) → IfSome (told (Some form.Reserve) (name ∷ []) input files) P
where_given name input None P h = tt
where_given name input (Some all) P h = h

where_loaded : (bytes : Text) (input : Option Text) (files : List (Option Text)) (P : Given → Type 0) → loaded (file_at files 0) ≡ Ok bytes →
    IfSome input (λ input. P (with_files files input)) → IfSome (told_with_file (loaded (file_at files 0)) input files) P
where_loaded bytes input files P is h = subst (λ file. IfSome (told_with_file file input files) P) (sym is) (mapped input h)
  where
    mapped : (o : Option Text) → IfSome o (λ input. P (record { input = input; files = files })) → IfSome (option_map (λ input. record { input = input; files = files }) o) P
    mapped None h = tt
    mapped (Some input) h = h

where_refused : (s : Status) (input : Option Text) (files : List (Option Text)) (P : Given → Type 0) → loaded (file_at files 0) ≡ Err s → P (files_alone files) →
    IfSome (told_with_file (loaded (file_at files 0)) input files) P
where_refused s input files P is h = subst (λ file. IfSome (told_with_file file input files) P) (sym is) h

-- The answer to the words.

-- the status and the text by those of the run
left_or : (bytes : Text) (s : Status) (input text : Text) (t : Status) →
    (s ≡ status.Done → (t ≡ status_of_reserve (reserve_told bytes (heard input))) × (text ≡ text_of_reserve (reserve_told bytes (heard input)))) →
    ((s ≡ status.Done → ⊥) → (t ≡ s) × IsTextOfRun (run_behind goal.Run []) input text) → (t ≡ status_left bytes s input) × IsTextLeft bytes s input text
left_or bytes status.Done input text t told other = told refl
left_or bytes status.Usage input text t told other = other (λ is. cc)
left_or bytes (status.Refused line reason) input text t told other = other (λ is. cc)
left_or bytes status.Short input text t told other = other (λ is. cc)
left_or bytes status.ReadFault input text t told other = other (λ is. cc)
left_or bytes status.WriteFault input text t told other = other (λ is. cc)
left_or bytes status.Memory input text t told other = other (λ is. cc)
left_or bytes status.TooLong input text t told other = other (λ is. cc)
left_or bytes (status.BadFile why) input text t told other = other (λ is. cc)
left_or bytes (status.Differs row) input text t told other = other (λ is. cc)
left_or bytes (status.Wrong worth) input text t told other = other (λ is. cc)

-- only where the run is done the answer is
pub left_done : (bytes : Text) (s : Status) (input : Text) → status_left bytes s input ≡ status.Done → s ≡ status.Done
left_done bytes status.Done input h = refl
left_done bytes status.Usage input h = h
left_done bytes (status.Refused line reason) input h = h
left_done bytes status.Short input h = h
left_done bytes status.ReadFault input h = h
left_done bytes status.WriteFault input h = h
left_done bytes status.Memory input h = h
left_done bytes status.TooLong input h = h
left_done bytes (status.BadFile why) input h = h
left_done bytes (status.Differs row) input h = h
left_done bytes (status.Wrong worth) input h = h

abbrev pub reported_left : Result Text Status → Text → Option Lines
reported_left file input =
    option_and_then (λ (run : Run). cond run.reports (Some (lines_of run input)) None) (option_map (λ (bytes : Text). run_behind goal.Run []) (result_ok file))

loaded_answer : (bytes : Text) (files : List (Option Text)) (input : Text) (report a : Answer) → loaded (file_at files 0) ≡ Ok bytes →
    IsAnswerOfRun (run_behind goal.Run []) input report.status report.text.items → IsBehind bytes (heard input) report a → (a.status ≡ status.Done → report.status ≡ status.Done) →
    IsAnswerTo (Some form.Reserve) (with_files files input) a.status a.text.items
unfolding due_status
loaded_answer bytes files input report a is as_run behind done_of =
    let both = left_or bytes (status_of_run (run_behind goal.Run []) input) input a.text.items a.status
    (λ done. (behind.ends (as_run.ends ∙ done), behind.writes (as_run.ends ∙ done)))
    (λ undone. (
      behind.same_ends (λ done. undone (sym as_run.ends ∙ done)) ∙ as_run.ends,
      subst (IsTextOfRun (run_behind goal.Run []) input) (sym (behind.same_writes (λ done. undone (sym as_run.ends ∙ done)))) as_run.writes,
    )) in
    record {
      ends = both.0 ∙ sym (ap (λ file. status_reserved file input) is);
      writes = subst (λ file. IsTextReserved file input a.text.items) (sym is) both.1;
      of_call = λ done. subst (λ file. IfSome (reported_left file input) AreOfCall) (sym is) (as_run.of_call refl (done_of done));
    }

pub loaded_answers : (name bytes : Text) (r : Result Answer InputFault) (input : Option Text) (files : Option Contents) → IfSome files (λ all. loaded (get all name) ≡ Ok bytes) →
    IfOk r (AnswersReserve bytes input) →
    IfOk r (λ answer. Answers (Some form.Reserve) (told (Some form.Reserve) (name ∷ []) input files) answer.status answer.text.items)
loaded_answers name bytes (Err fault) input files is told = tt
loaded_answers name bytes (Ok answer) input files is told_reserve = record {
  answered = is_answered bytes input answer told_reserve;
  as_due = where_given name input files P (mapped_some files is (λ all is.
      where_loaded bytes input (held (name ∷ []) all) P is (both input told_reserve.answers.as_run told_reserve.behind (λ input run behind.
      loaded_answer bytes (held (name ∷ []) all) input told_reserve.report answer is run behind (done_behind bytes _ answer told_reserve)))));
}
  where
    P : Given → Type 0
    P given = IsAnswerTo (Some form.Reserve) given answer.status answer.text.items

    both : {A : Type 0} {Q R S : A → Type 0} (o : Option A) → IfSome o Q → IfSome o R → ((x : A) → Q x → R x → S x) → IfSome o S
    both None q r h = tt
    both (Some x) q r h = h x q r

-- where the file is too long
long_answer_to : (files : List (Option Text)) (s : Status) (text : Text) → loaded (file_at files 0) ≡ Err status.TooLong → s ≡ status.TooLong → text ≡ text_without_run status.TooLong →
    IsAnswerTo (Some form.Reserve) (files_alone files) s text
unfolding due_status
long_answer_to files s text is ends writes = record {
  ends = ends ∙ sym (ap (λ file. status_reserved file []) is);
  writes = subst (λ file. IsTextReserved file [] text) (sym is) writes;
  of_call = λ done. absurd (let wrong : status.TooLong ≡ status.Done = sym ends ∙ done in cc);
}

pub long_answers : (name : Text) (s : Status) (text : Text) (input : Option Text) (files : Option Contents) → IfSome files (λ all. loaded (get all name) ≡ Err status.TooLong) → s ≡ status.TooLong →
    text ≡ text_without_run status.TooLong → Answers (Some form.Reserve) (told (Some form.Reserve) (name ∷ []) input files) s text
long_answers name s text input files is ends writes = record {
  answered = subst IsAnswered (sym ends) tt;
  as_due = where_given name input files (λ given. IsAnswerTo (Some form.Reserve) given s text) (mapped_some files is (λ all is.
      where_refused status.TooLong input (held (name ∷ []) all) (λ given. IsAnswerTo (Some form.Reserve) given s text) is (long_answer_to (held (name ∷ []) all) s text is ends writes)));
}

-- Why the words fail.

only_leaving : (s : Status) (why : Bad) → EndsReserve s → s ≡ status.BadFile why → IsLeaving why
only_leaving s why ends is = subst EndsReserve is ends

answer_leaving : (bytes : Text) (input : Option Text) (a : Answer) (why : Bad) → AnswersReserve bytes input a → a.status ≡ status.BadFile why → IsLeaving why
answer_leaving bytes input a why told is = elim (behind_or_of bytes input a told) [
  | inl behind ↦ only_leaving a.status why behind.1 is
  | inr of ↦ absurd (subst IsOfRun (sym of.1 ∙ is) told.answers.answered)
]

answer_long : (bytes : Text) (input : Option Text) (a : Answer) → AnswersReserve bytes input a → a.status ≡ status.TooLong → IfSome input (λ input. is_over input ≡ true)
answer_long bytes input a told is = elim (behind_or_of bytes input a told) [
  | inl behind ↦ absurd (subst EndsReserve is behind.1)
  | inr of ↦ long_input (Ok told.report) goal.Run [] input told.answers (sym of.1 ∙ is)
]

pub loaded_caused : (bytes : Text) (r : Result Answer InputFault) (given : Option Given) (input : Option Text) (reads loads : Counts) → IfOk r (AnswersReserve bytes input) →
    (r ≡ Err faults.Failed → Rose reads.0 reads.1) → IsCaused (Some form.Reserve) given input (status_of_answer r) reads loads
loaded_caused bytes (Ok answer) given input reads loads told failed = record {
  read_fault = λ is. absurd (no_fault bytes input answer told is);
  too_long = λ long unloaded. mapped_some input (answer_long bytes input answer told long) (λ input over. inr over);
  bad_file = λ why is. answer_leaving bytes input answer why told is;
}
loaded_caused bytes (Err faults.Failed) given input reads loads told failed = record {
  read_fault = λ is. inl (failed refl);
  too_long = λ is. absurd (let wrong : ⊥ = cc in wrong);
  bad_file = λ why is. absurd (let wrong : ⊥ = cc in wrong);
}
loaded_caused bytes (Err faults.Memory) given input reads loads told failed = record {
  read_fault = λ is. absurd (let wrong : ⊥ = cc in wrong);
  too_long = λ is. absurd (let wrong : ⊥ = cc in wrong);
  bad_file = λ why is. absurd (let wrong : ⊥ = cc in wrong);
}

due_long : (files : List (Option Text)) → loaded (file_at files 0) ≡ Err status.TooLong → due_status (Some form.Reserve) (files_alone files) ≡ status.TooLong
unfolding due_status
due_long files is = ap (λ file. status_reserved file []) is

-- the file is told to be too long, or its count rose
pub long_caused : (name : Text) (s : Status) (input : Option Text) (files : Option Contents) (reads loads : Counts) → s ≡ status.TooLong →
    MatchOption files (Rose loads.0 loads.1) (λ all. loaded (get all name) ≡ Err status.TooLong) →
    IsCaused (Some form.Reserve) (told (Some form.Reserve) (name ∷ []) input files) input s reads loads
long_caused name s input files reads loads ends long = record {
  read_fault = λ is. absurd (let wrong : status.TooLong ≡ status.ReadFault = sym ends ∙ is in cc);
  too_long = λ is unloaded. by_files files long unloaded;
  bad_file = λ why is. absurd (let wrong : status.TooLong ≡ status.BadFile why = sym ends ∙ is in cc);
}
  where
    some_long : (input : Option Text) (files : List (Option Text)) → loaded (file_at files 0) ≡ Err status.TooLong →
        IsSomeAnd (told_with_file (loaded (file_at files 0)) input files) (λ given. due_status (Some form.Reserve) given ≡ status.TooLong)
    some_long input files is = subst (λ file. IsSomeAnd (told_with_file file input files) (λ given. due_status (Some form.Reserve) given ≡ status.TooLong)) (sym is) (due_long files is)

    by_files : (files : Option Contents) → MatchOption files (Rose loads.0 loads.1) (λ all. loaded (get all name) ≡ Err status.TooLong) → (Rose loads.0 loads.1 → ⊥) →
        IfSome input (λ bytes. IsSomeAnd (told (Some form.Reserve) (name ∷ []) input files) (λ given. due_status (Some form.Reserve) given ≡ status.TooLong) ⊎ (is_over bytes ≡ true))
    by_files None rose unloaded = absurd (unloaded rose)
    by_files (Some all) is unloaded = for_some input (λ bytes. inl (some_long input (held (name ∷ []) all) is))

pub fault_caused : (fault : InputFault) (given : Option Given) (input : Option Text) (reads loads : Counts) → (fault ≡ faults.Failed → Rose loads.0 loads.1) →
    IsCaused (Some form.Reserve) given input (status_of_answer (Err fault)) reads loads
fault_caused faults.Failed given input reads loads failed = record {
  read_fault = λ is. inr (failed refl);
  too_long = λ is. absurd (let wrong : ⊥ = cc in wrong);
  bad_file = λ why is. absurd (let wrong : ⊥ = cc in wrong);
}
fault_caused faults.Memory given input reads loads failed = record {
  read_fault = λ is. absurd (let wrong : ⊥ = cc in wrong);
  too_long = λ is. absurd (let wrong : ⊥ = cc in wrong);
  bad_file = λ why is. absurd (let wrong : ⊥ = cc in wrong);
}

-- How far the input is read.

abbrev pub heard_left : Result Text Status → Option (Goal × Lines)
heard_left file = option_and_then (λ (run : Run). cond run.hears (Some (run.goal, run.opening)) None) (option_map (λ (bytes : Text). run_behind goal.Run []) (result_ok file))

-- what holds of the hearing holds of what is given
where_heard : (file : Result Text Status) (name : Text) (input : Option Text) (files : Option Contents) (Q : Option (Goal × Lines) → Type 0) → IfSome files (λ all. loaded (get all name) ≡ file) →
    Q (heard_left file) → IfSome (told (Some form.Reserve) (name ∷ []) input files) (λ given. Q (hears (Some form.Reserve) given))
where_heard (Ok bytes) name input files Q is h = where_given name input files (λ given. Q (hears (Some form.Reserve) given)) (mapped_some files is (λ all is.
    where_loaded bytes input (held (name ∷ []) all) (λ given. Q (hears (Some form.Reserve) given)) is (for_some input (λ input. subst (λ file. Q (heard_left file)) (sym is) h))))
where_heard (Err s) name input files Q is h = where_given name input files (λ given. Q (hears (Some form.Reserve) given)) (mapped_some files is (λ all is.
    where_refused s input (held (name ∷ []) all) (λ given. Q (hears (Some form.Reserve) given)) is (subst (λ file. Q (heard_left file)) (sym is) h)))

never_usage : (r : Result Answer InputFault) (bytes : Text) (input : Option Text) → IfOk r (AnswersReserve bytes input) → status_of_answer r ≡ status.Usage → ⊥
never_usage (Ok answer) bytes input told is = subst IsAnswered is (is_answered bytes input answer told)
never_usage (Err faults.Failed) bytes input told is = cc
never_usage (Err faults.Memory) bytes input told is = cc

leaving_alone : (r : Result Answer InputFault) (bytes : Text) (input : Option Text) (why : Bad) → IfOk r (AnswersReserve bytes input) → status_of_answer r ≡ status.BadFile why → IsLeaving why
leaving_alone (Ok answer) bytes input why told is = answer_leaving bytes input answer why told is
leaving_alone (Err faults.Failed) bytes input why told is = absurd (let wrong : ⊥ = cc in wrong)
leaving_alone (Err faults.Memory) bytes input why told is = absurd (let wrong : ⊥ = cc in wrong)

pub loaded_reads : {I : Type 0} (left : I → Option Text) (name bytes : Text) (r : Result Answer InputFault) (files : Option Contents) (loads : Counts) (old new : I) →
    IfSome files (λ all. loaded (get all name) ≡ Ok bytes) → IfOk r (AnswersReserve bytes (left old)) → ReadsRun left goal.Run [] (status_of_answer r) old new →
    ReadsFarEnough left (Some form.Reserve) (told (Some form.Reserve) (name ∷ []) (left old) files) loads (status_of_answer r) old new
loaded_reads {I} left name bytes r files loads old new is told_reserve reads =
    let given = told (Some form.Reserve) (name ∷ []) (left old) files in
    record {
      read_far_enough = λ read kept. where_heard (Ok bytes) name (left old) files (λ h. IfSome h (λ h. DecidedWhereTold h.0 h.1 (left old) (left new))) is (reads.far_enough read kept);
      read_fault_undecided = λ failed unloaded. where_heard (Ok bytes) name (left old) files (λ h. IsSomeAnd h (λ h. UndecidedWhereTold h.0 h.1 (left old) (left new))) is (reads.undecided failed);
      read_no_further = where_heard (Ok bytes) name (left old) files (λ h. IfSome h (λ h. NoFurtherWhereTold h.0 h.1 (left old) (left new))) is reads.no_further;
      read_to_end = λ done. for_some given (λ given. for_some (reported (Some form.Reserve) given) (λ all. reads.to_end refl done));
      usage_reads_nothing = λ usage. absurd (never_usage r bytes (left old) told_reserve usage);
      unheard_is_unread = where_heard (Ok bytes) name (left old) files (λ h. h ≡ None → new ≡ old) is (λ none. absurd (let wrong : ⊥ = cc in wrong));
      bad_file_reads_nothing = λ why bad other. absurd (other (leaving_alone r bytes (left old) why told_reserve bad));
    }

-- Where nothing of the input is taken.

unread_further : {I : Type 0} (left : I → Option Text) (name : Text) (files : Option Contents) (old : I) →
    IfSome (told (Some form.Reserve) (name ∷ []) (left old) files) (λ given. IfSome (hears (Some form.Reserve) given) (λ h. NoFurtherWhereTold h.0 h.1 (left old) (left old)))
unread_further {I} left name files old = for_some (told (Some form.Reserve) (name ∷ []) (left old) files) (λ given. by_file (loaded (file_at given.files 0)))
  where
    none_ends : ends_run goal.Run [] ≡ false
    none_ends = goes_on goal.Run [] (go_on-none goal.Run)

    by_file : (file : Result Text Status) → IfSome (heard_left file) (λ h. NoFurtherWhereTold h.0 h.1 (left old) (left old))
    by_file (Ok bytes) = nothing_further goal.Run [] (left old) none_ends
    by_file (Err s) = tt

pub long_reads : {I : Type 0} (left : I → Option Text) (name : Text) (s : Status) (files : Option Contents) (loads : Counts) (old : I) → s ≡ status.TooLong → IfSome files (λ all. loaded (get all name) ≡ Err status.TooLong) →
    ReadsFarEnough left (Some form.Reserve) (told (Some form.Reserve) (name ∷ []) (left old) files) loads s old old
long_reads {I} left name s files loads old ends is = record {
  read_far_enough = λ read kept. where_heard (Err status.TooLong) name (left old) files (λ h. IfSome h (λ h. DecidedWhereTold h.0 h.1 (left old) (left old))) is tt;
  read_fault_undecided = λ failed. absurd (let wrong : status.TooLong ≡ status.ReadFault = sym ends ∙ failed in cc);
  read_no_further = unread_further left name files old;
  read_to_end = λ done. absurd (let wrong : status.TooLong ≡ status.Done = sym ends ∙ done in cc);
  usage_reads_nothing = λ usage. refl;
  unheard_is_unread = for_some (told (Some form.Reserve) (name ∷ []) (left old) files) (λ given unheard. refl);
  bad_file_reads_nothing = λ why bad other. refl;
}

pub fault_reads : {I : Type 0} (left : I → Option Text) (fault : InputFault) (name : Text) (files : Option Contents) (loads : Counts) (old : I) → (fault ≡ faults.Failed → Rose loads.0 loads.1) →
    ReadsFarEnough left (Some form.Reserve) (told (Some form.Reserve) (name ∷ []) (left old) files) loads (status_of_answer (Err fault)) old old
fault_reads {I} left faults.Failed name files loads old failed = record {
  read_far_enough = λ read kept. absurd (read refl);
  read_fault_undecided = λ is unloaded. absurd (unloaded (failed refl));
  read_no_further = unread_further left name files old;
  read_to_end = λ is. absurd (let wrong : ⊥ = cc in wrong);
  usage_reads_nothing = λ is. refl;
  unheard_is_unread = for_some (told (Some form.Reserve) (name ∷ []) (left old) files) (λ given unheard. refl);
  bad_file_reads_nothing = λ why is other. refl;
}
fault_reads {I} left faults.Memory name files loads old failed = record {
  read_far_enough = λ read kept. absurd (kept refl);
  read_fault_undecided = λ is. absurd (let wrong : ⊥ = cc in wrong);
  read_no_further = unread_further left name files old;
  read_to_end = λ is. absurd (let wrong : ⊥ = cc in wrong);
  usage_reads_nothing = λ is. refl;
  unheard_is_unread = for_some (told (Some form.Reserve) (name ∷ []) (left old) files) (λ given unheard. refl);
  bad_file_reads_nothing = λ why is other. refl;
}

-- What was loaded.

pub file_loaded : (name bytes : Text) (files : Option Contents) → IfSome files (λ all. get all name ≡ Some bytes) → length bytes ≤ MOST_BYTES → IfSome files (λ all. loaded (get all name) ≡ Ok bytes)
file_loaded name bytes files is fits = mapped_some files is (λ all is. loaded_short (get all name) bytes is fits)

pub file_long : (name : Text) (files : Option Contents) (before after : ℕ) → MatchOption files (Rose before after) (λ all. IsLonger all name MOST_BYTES) →
    MatchOption files (Rose before after) (λ all. loaded (get all name) ≡ Err status.TooLong)
file_long name None before after rose = rose
file_long name (Some all) before after longer = loaded_long (get all name) longer

pub where_long : (name : Text) (files : Option Contents) (before after : ℕ) → MatchOption files (Rose before after) (λ all. loaded (get all name) ≡ Err status.TooLong) →
    IfSome files (λ all. loaded (get all name) ≡ Err status.TooLong)
where_long name None before after long = tt
where_long name (Some all) before after long = long

-- What is promised of a board.

told_ok : (r : Result Text (ℕ × Reason)) (text : Text) → status_of_reserve r ≡ status.Done → text ≡ text_of_reserve r → r ≡ Ok text
told_ok (Ok t) text h is = ap Ok (sym is)
told_ok (Err fault) text h is = absurd (let wrong : ⊥ = cc in wrong)

-- what is told where a call is done behind whose report a file is taken
pub left_told : (asked : Option Form) (given : Given) (text : Text) → due_status asked given ≡ status.Done → IsDueText asked given text → IfSome (reported asked given) AreOfCall →
    IfSome (leaving_asked asked given) (λ left. (reserve_told left.0 left.1 ≡ Ok text) × AreOfCall left.1)
unfolding due_status
left_told None given text done due call = tt
left_told (Some (form.Input g)) given text done due call = tt
left_told (Some form.Opened) given text done due call = tt
left_told (Some form.Audit) given text done due call = tt
left_told (Some (form.Slip name)) given text done due call = tt
left_told (Some (form.Judged d)) given text done due call = tt
left_told (Some form.Join) given text done due call = tt
left_told (Some form.Reserve) given text done due call = by_file (loaded (file_at given.files 0)) done due call
  where
    by_file : (file : Result Text Status) → status_reserved file given.input ≡ status.Done → IsTextReserved file given.input text → IfSome (reported_left file given.input) AreOfCall →
        IfSome {T = Text × Lines} (option_map (λ (bytes : Text). (bytes, heard given.input)) (result_ok file)) (λ left. (reserve_told left.0 left.1 ≡ Ok text) × AreOfCall left.1)
    by_file (Err s) done due call = tt
    by_file (Ok bytes) done due call =
        let ran = left_done bytes (status_of_run (run_behind goal.Run []) given.input) given.input done in (
          told_ok (reserve_told bytes (heard given.input)) text (subst (λ s. status_left bytes s given.input ≡ status.Done) ran done) (subst (λ s. IsTextLeft bytes s given.input text) ran due),
          call,
        )

pub begins : (lines : Lines) (bytes text : Text) → AreOfCall lines → PassesSeatsOn lines bytes text → BeginsWithReport lines text
begins lines bytes text call passes = (report_of lines, _, passes.printed, counted lines (report_of lines) call refl, isolated lines (report_of lines) call refl)
