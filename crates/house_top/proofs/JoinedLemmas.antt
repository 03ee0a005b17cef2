-- The answers to the words that tell a join.
use Rattle.std.proofs.Common.{◌≡◌, ◌⊎◌, true, List, [], Option, Some, None, Result, Ok, Err, refl, sym, ap, ◌∙◌, subst, inl, inr}
use Rattle.std.specs.Prelude.{IfOk, IfSome, IsSomeAnd}
use Rattle.house_io.specs.Faults.{Rose}
use Rattle.house_io.specs.Files.{Contents}
use Rattle.house_base.specs.Text.{Text}
use Rattle.house_model.specs.Heard.{is_over}
use Rattle.house_top.specs.declared.answer.Answer.{Answer}
use Rattle.house_top.specs.declared.bad.Bad.{Bad}
use Rattle.house_top.specs.declared.form.Form.TheVariants as form
use Rattle.house_top.specs.declared.status.Status.{Status}
use Rattle.house_top.specs.declared.status.Status.TheVariants as status
use Rattle.house_top.specs.Answer.{Answers, IsAnswerTo, IsAnswered, status_of_answer}
use Rattle.house_top.specs.Desks.{EndsJoined, IsOfDesk, IsSaidOfDesks, joined}
use Rattle.house_top.specs.Due.{due_status}
use Rattle.house_top.specs.Given.{files_alone, held, told}
use Rattle.house_top.specs.Judged.{Said}
use Rattle.house_top.specs.Promise.{Counts, IsCaused, KeepsFiles, ReadsFarEnough}
use Rattle.input_run.specs.declared.fault.InputFault.{InputFault}
use Rattle.input_run.specs.declared.fault.InputFault.TheVariants as faults

-- How it can end.

joined_answered : (s : Status) → EndsJoined s → IsAnswered s
joined_answered status.Done h = tt
joined_answered status.Usage h = absurd h
joined_answered (status.Refused line reason) h = absurd h
joined_answered status.Short h = absurd h
joined_answered status.ReadFault h = absurd h
joined_answered status.WriteFault h = absurd h
joined_answered status.Memory h = absurd h
joined_answered status.TooLong h = tt
joined_answered (status.BadFile why) h = tt
joined_answered (status.Differs row) h = absurd h
joined_answered (status.Wrong worth) h = absurd h

-- an answer that is no fault
no_fault : (s : Status) → EndsJoined s → s ≡ status.ReadFault → ⊥
no_fault s ends is = subst IsAnswered is (joined_answered s ends)

refused_for : (s : Status) (why : Bad) → EndsJoined s → s ≡ status.BadFile why → IsOfDesk why
refused_for s why ends is = subst EndsJoined is ends

for_some : {A : Type 0} (o : Option A) {P : A → Type 0} → ((x : A) → P x) → IfSome o P
for_some None h = tt
for_some (Some x) h = h x

-- the answer to what is given
joined_answer : (names : List Text) (files : Contents) (s : Status) (text : Text) → (s, text) ≡ joined (held names files) →
    IsAnswerTo (Some form.Join) (files_alone (held names files)) s text
unfolding due_status
joined_answer names files s text is = record {
  ends = ap (λ (p : Said). p.0) is;
  writes = ap (λ (p : Said). p.1) is;
  of_call = λ done. tt;
}

where_told : (names : List Text) (input : Option Text) (files : Option Contents) (s : Status) (text : Text) → IfSome files (λ files. (s, text) ≡ joined (held names files)) →
    IfSome (told (Some form.Join) names input files) (λ given. IsAnswerTo (Some form.Join) given s text)
where_told names input None s text is = tt
where_told names input (Some files) s text is = joined_answer names files s text is

pub joined_answers : (r : Result Answer InputFault) (names : List Text) (input : Option Text) (files : Option Contents) →
    IfOk r (λ answer. IsSaidOfDesks files names answer.status answer.text.items) →
    IfOk r (λ answer. Answers (Some form.Join) (told (Some form.Join) names input files) answer.status answer.text.items)
joined_answers (Ok answer) names input files said = record {
  answered = joined_answered answer.status said.ends;
  as_due = where_told names input files answer.status answer.text.items said.as_due;
}
joined_answers (Err fault) names input files said = tt

-- Why it fails, and where a file is told to be too long.

due_long : (names : List Text) (files : Contents) (s : Status) (text : Text) → (s, text) ≡ joined (held names files) → s ≡ status.TooLong →
    due_status (Some form.Join) (files_alone (held names files)) ≡ status.TooLong
unfolding due_status
due_long names files s text is long = sym (ap (λ (p : Said). p.0) is) ∙ long

where_long : (names : List Text) (input : Option Text) (files : Option Contents) (s : Status) (text : Text) (loads : Counts) →
    IfSome files (λ files. (s, text) ≡ joined (held names files)) → (files ≡ None → Rose loads.0 loads.1) → s ≡ status.TooLong → (Rose loads.0 loads.1 → ⊥) →
    IfSome input (λ bytes. IsSomeAnd (told (Some form.Join) names input files) (λ given. due_status (Some form.Join) given ≡ status.TooLong) ⊎ (is_over bytes ≡ true))
where_long names input None s text loads is rose long unloaded = absurd (unloaded (rose refl))
where_long names input (Some files) s text loads is rose long unloaded = for_some input (λ bytes. inl (due_long names files s text is long))

pub joined_caused : (r : Result Answer InputFault) (names : List Text) (input : Option Text) (files : Option Contents) (reads loads : Counts) →
    IfOk r (λ answer. IsSaidOfDesks files names answer.status answer.text.items) → IfOk r (λ answer. answer.status ≡ status.TooLong → files ≡ None → Rose loads.0 loads.1) →
    (r ≡ Err faults.Failed → Rose loads.0 loads.1) →
    IsCaused (Some form.Join) (told (Some form.Join) names input files) input (status_of_answer r) reads loads
joined_caused (Ok answer) names input files reads loads said long failed = record {
  read_fault = λ is. absurd (no_fault answer.status said.ends is);
  too_long = λ is unloaded. where_long names input files answer.status answer.text.items loads said.as_due (long is) is unloaded;
  bad_file = λ why is. refused_for answer.status why said.ends is;
}
joined_caused (Err faults.Failed) names input files reads loads said long failed = record {
  read_fault = λ is. inr (failed refl);
  too_long = λ is. absurd (let wrong : ⊥ = cc in wrong);
  bad_file = λ why is. absurd (let wrong : ⊥ = cc in wrong);
}
joined_caused (Err faults.Memory) names input files reads loads said long failed = record {
  read_fault = λ is. absurd (let wrong : ⊥ = cc in wrong);
  too_long = λ is. absurd (let wrong : ⊥ = cc in wrong);
  bad_file = λ why is. absurd (let wrong : ⊥ = cc in wrong);
}

only_failed : (r : Result Answer InputFault) (names : List Text) (files : Option Contents) → IfOk r (λ answer. IsSaidOfDesks files names answer.status answer.text.items) →
    status_of_answer r ≡ status.ReadFault → r ≡ Err faults.Failed
only_failed (Ok answer) names files said is = absurd (no_fault answer.status said.ends is)
only_failed (Err faults.Failed) names files said is = refl
only_failed (Err faults.Memory) names files said is = absurd (let wrong : ⊥ = cc in wrong)

-- The input is not read.
pub joined_reads : {I : Type 0} (left : I → Option Text) (r : Result Answer InputFault) (names : List Text) (files : Option Contents) (loads : Counts) (old : I) →
    IfOk r (λ answer. IsSaidOfDesks files names answer.status answer.text.items) → (r ≡ Err faults.Failed → Rose loads.0 loads.1) →
    ReadsFarEnough left (Some form.Join) (told (Some form.Join) names (left old) files) loads (status_of_answer r) old old
joined_reads {I} left r names files loads old said failed =
    let given = told (Some form.Join) names (left old) files in
    record {
      read_far_enough = λ read kept. for_some given (λ given. tt);
      read_fault_undecided = λ is unloaded. absurd (unloaded (failed (only_failed r names files said is)));
      read_no_further = for_some given (λ given. tt);
      read_to_end = λ is. for_some given (λ given. tt);
      usage_reads_nothing = λ is. refl;
      unheard_is_unread = for_some given (λ given unheard. refl);
      bad_file_reads_nothing = λ why is other. refl;
    }

-- No file is changed, and one is loaded.
pub kept_names : {F : Type 0} (shown : F → Option Contents) (names : List Text) (old new : F) → (names ≡ [] → ⊥) → shown new ≡ shown old → KeepsFiles shown names old new
kept_names {F} shown names old new some same = record { files_unchanged = same; shelf_unchanged = λ none. absurd (some none) }
