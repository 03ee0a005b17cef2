-- The answers to the words that judge a file.
use Rattle.std.proofs.Common.{◌≡◌, ◌⊎◌, true, List, ◌∷◌, Option, Some, None, Result, Ok, Err, refl, sym, ap, ◌∙◌, subst, inl, inr}
use Rattle.std.specs.Prelude.{IfOk, IfSome, IsSomeAnd, IsTrue}
use Rattle.std.specs.FinMap.{get}
use Rattle.house_io.specs.Faults.{Rose}
use Rattle.house_io.specs.Files.{Contents}
use Rattle.house_base.specs.Text.{Text}
use Rattle.house_model.specs.Heard.{is_over}
use Rattle.house_top.specs.declared.answer.Answer.{Answer}
use Rattle.house_top.specs.declared.bad.Bad.{Bad}
use Rattle.house_top.specs.declared.document.Document.{Document}
use Rattle.house_top.specs.declared.filed.Filed.{Filed}
use Rattle.house_top.specs.declared.form.Form.TheVariants as form
use Rattle.house_top.specs.declared.status.Status.{Status}
use Rattle.house_top.specs.declared.status.Status.TheVariants as status
use Rattle.house_top.specs.Answer.{Answers, IsAnswerTo, IsAnswered, status_of_answer}
use Rattle.house_top.specs.Due.{due_file, due_status}
use Rattle.house_top.specs.Filed.{FilesWhatIsDue}
use Rattle.house_top.specs.Given.{Given, files_alone, held, told}
use Rattle.house_top.specs.Judged.{EndsJudged, IsSaid, HasFile, IsRefusal, Said, file_judged, judged}
use Rattle.house_top.specs.Promise.{Counts, EndsAsDue, Faults, IsCaused, ReadsFarEnough}
use Rattle.house_top.specs.Words.{is_stored}
use Rattle.input_run.specs.declared.fault.InputFault.{InputFault}
use Rattle.input_run.specs.declared.fault.InputFault.TheVariants as faults

-- How it can end.

judged_answered : (d : Document) (s : Status) → EndsJudged d s → IsAnswered s
judged_answered d status.Done h = tt
judged_answered d status.Usage h = absurd h
judged_answered d (status.Refused line reason) h = absurd h
judged_answered d status.Short h = absurd h
judged_answered d status.ReadFault h = absurd h
judged_answered d status.WriteFault h = absurd h
judged_answered d status.Memory h = absurd h
judged_answered d status.TooLong h = tt
judged_answered d (status.BadFile why) h = tt
judged_answered d (status.Differs row) h = tt
judged_answered d (status.Wrong worth) h = tt

-- an answer that is no fault
no_fault : (d : Document) (s : Status) → EndsJudged d s → s ≡ status.ReadFault → ⊥
no_fault d s ends is = subst IsAnswered is (judged_answered d s ends)

refused_for : (d : Document) (s : Status) (why : Bad) → EndsJudged d s → s ≡ status.BadFile why → IsRefusal d why
refused_for d s why ends is = subst (EndsJudged d) is ends

-- the answer to what is given
judged_answer : (d : Document) (name : Text) (more : List Text) (files : Contents) (s : Status) (text : Text) → (s, text) ≡ judged d (get files name) →
    IsAnswerTo (Some (form.Judged d)) (files_alone (held (name ∷ more) files)) s text
unfolding due_status
judged_answer d name more files s text is = record {
  ends = ap (λ (p : Said). p.0) is;
  writes = ap (λ (p : Said). p.1) is;
  of_call = λ done. tt;
}

where_told : (d : Document) (name : Text) (more : List Text) (input : Option Text) (files : Option Contents) (s : Status) (text : Text) → IfSome files (λ files. (s, text) ≡ judged d (get files name)) →
    IfSome (told (Some (form.Judged d)) (name ∷ more) input files) (λ given. IsAnswerTo (Some (form.Judged d)) given s text)
where_told d name more input None s text is = tt
where_told d name more input (Some files) s text is = judged_answer d name more files s text is

pub judged_answers : (r : Result Answer InputFault) (d : Document) (name : Text) (more : List Text) (input : Option Text) (files : Option Contents) →
    IfOk r (λ answer. IsSaid d files name answer.status answer.text.items) →
    IfOk r (λ answer. Answers (Some (form.Judged d)) (told (Some (form.Judged d)) (name ∷ more) input files) answer.status answer.text.items)
judged_answers (Ok answer) d name more input files said = record {
  answered = judged_answered d answer.status said.ends;
  as_due = where_told d name more input files answer.status answer.text.items said.as_due;
}
judged_answers (Err fault) d name more input files said = tt

-- Why it fails, and where a file is told to be too long.

due_long : (d : Document) (name : Text) (more : List Text) (files : Contents) (s : Status) (text : Text) → (s, text) ≡ judged d (get files name) → s ≡ status.TooLong →
    due_status (Some (form.Judged d)) (files_alone (held (name ∷ more) files)) ≡ status.TooLong
unfolding due_status
due_long d name more files s text is long = sym (ap (λ (p : Said). p.0) is) ∙ long

for_some : {A : Type 0} (o : Option A) {P : A → Type 0} → ((x : A) → P x) → IfSome o P
for_some None h = tt
for_some (Some x) h = h x

where_long : (d : Document) (name : Text) (more : List Text) (input : Option Text) (files : Option Contents) (s : Status) (text : Text) (loads : Counts) →
    IfSome files (λ files. (s, text) ≡ judged d (get files name)) → (files ≡ None → Rose loads.0 loads.1) → s ≡ status.TooLong → (Rose loads.0 loads.1 → ⊥) →
    IfSome input (λ bytes. IsSomeAnd (told (Some (form.Judged d)) (name ∷ more) input files) (λ given. due_status (Some (form.Judged d)) given ≡ status.TooLong) ⊎ (is_over bytes ≡ true))
where_long d name more input None s text loads is rose long unloaded = absurd (unloaded (rose refl))
where_long d name more input (Some files) s text loads is rose long unloaded = for_some input (λ bytes. inl (due_long d name more files s text is long))

pub judged_caused : (r : Result Answer InputFault) (d : Document) (name : Text) (more : List Text) (input : Option Text) (files : Option Contents) (reads loads : Counts) →
    IfOk r (λ answer. IsSaid d files name answer.status answer.text.items) → IfOk r (λ answer. answer.status ≡ status.TooLong → files ≡ None → Rose loads.0 loads.1) →
    (r ≡ Err faults.Failed → Rose loads.0 loads.1) →
    IsCaused (Some (form.Judged d)) (told (Some (form.Judged d)) (name ∷ more) input files) input (status_of_answer r) reads loads
judged_caused (Ok answer) d name more input files reads loads said long failed = record {
  read_fault = λ is. absurd (no_fault d answer.status said.ends is);
  too_long = λ is unloaded. where_long d name more input files answer.status answer.text.items loads said.as_due (long is) is unloaded;
  bad_file = λ why is. refused_for d answer.status why said.ends is;
}
judged_caused (Err faults.Failed) d name more input files reads loads said long failed = record {
  read_fault = λ is. inr (failed refl);
  too_long = λ is. absurd (let wrong : ⊥ = cc in wrong);
  bad_file = λ why is. absurd (let wrong : ⊥ = cc in wrong);
}
judged_caused (Err faults.Memory) d name more input files reads loads said long failed = record {
  read_fault = λ is. absurd (let wrong : ⊥ = cc in wrong);
  too_long = λ is. absurd (let wrong : ⊥ = cc in wrong);
  bad_file = λ why is. absurd (let wrong : ⊥ = cc in wrong);
}

-- The input is not read.
pub judged_reads : {I : Type 0} (left : I → Option Text) (r : Result Answer InputFault) (d : Document) (name : Text) (more : List Text) (files : Option Contents) (loads : Counts) (old : I) →
    IfOk r (λ answer. IsSaid d files name answer.status answer.text.items) → (r ≡ Err faults.Failed → Rose loads.0 loads.1) →
    ReadsFarEnough left (Some (form.Judged d)) (told (Some (form.Judged d)) (name ∷ more) (left old) files) loads (status_of_answer r) old old
judged_reads {I} left r d name more files loads old said failed = record {
  read_far_enough = λ read kept. for_some (told (Some (form.Judged d)) (name ∷ more) (left old) files) (λ given. tt);
  read_fault_undecided = λ is unloaded. absurd (unloaded (failed (only_failed r said is)));
  read_no_further = for_some (told (Some (form.Judged d)) (name ∷ more) (left old) files) (λ given. tt);
  read_to_end = λ is. for_some (told (Some (form.Judged d)) (name ∷ more) (left old) files) (λ given. tt);
  usage_reads_nothing = λ is. refl;
  unheard_is_unread = for_some (told (Some (form.Judged d)) (name ∷ more) (left old) files) (λ given unheard. refl);
  bad_file_reads_nothing = λ why is other. refl;
}
  where
    only_failed : (r : Result Answer InputFault) → IfOk r (λ answer. IsSaid d files name answer.status answer.text.items) → status_of_answer r ≡ status.ReadFault → r ≡ Err faults.Failed
    only_failed (Ok answer) said is = absurd (no_fault d answer.status said.ends is)
    only_failed (Err faults.Failed) said is = refl
    only_failed (Err faults.Memory) said is = absurd (let wrong : ⊥ = cc in wrong)

-- where a call that judges a file ends as is due, no input is read
pub unread : {I : Type 0} (left : I → Option Text) (d : Document) (given : Option Given) (input : Option Text) (s : Status) (faults : Faults) (old : I) → EndsAsDue (Some (form.Judged d)) given input s faults →
    ReadsFarEnough left (Some (form.Judged d)) given faults.loads s old old
unread {I} left d given input s faults old ends = record {
  read_far_enough = λ read kept. for_some given (λ given. tt);
  read_fault_undecided = λ is unloaded. elim (ends.read_fault is) [ inl read ↦ absurd read | inr loaded ↦ absurd (unloaded loaded) ];
  read_no_further = for_some given (λ given. tt);
  read_to_end = λ is. for_some given (λ given. tt);
  usage_reads_nothing = λ is. refl;
  unheard_is_unread = for_some given (λ given unheard. refl);
  bad_file_reads_nothing = λ why is other. refl;
}

-- What is to be stored behind it.

pub judged_file : (d : Document) (name : Text) (more : List Text) (input : Option Text) (files : Option Contents) (a : Filed) → IsTrue (is_stored d) → HasFile d files name a →
    FilesWhatIsDue (Some (form.Judged d)) (told (Some (form.Judged d)) (name ∷ more) input files) a
judged_file d name more input files a storing has = record {
  stored = λ done. by files (has.stored storing done);
  unless_done = has.unless_done;
}
  where
    by : (files : Option Contents) → IfSome files (λ files. IsSomeAnd a.file (λ file. file.items ≡ file_judged d (get files name))) →
        IfSome (told (Some (form.Judged d)) (name ∷ more) input files) (λ given. IsSomeAnd a.file (λ file. file.items ≡ due_file (Some (form.Judged d)) given))
    by None is = tt
    by (Some files) is = is
