-- What is promised of the words that store a file.
use Rattle.std.proofs.Common.{◌≡◌, ◌⊎◌, ◌≤◌, true, false, cond, ℕ, Vec, List, Option, Some, None, length, take, refl, sym, ap, ◌∙◌, subst, inl, inr}
use Rattle.std.specs.Prelude.{IfSome, IsSomeAnd, MatchOption}
use Rattle.std.specs.FinMap.{get, get-insert}
use Rattle.std.specs.Cmp.Lexicographic.{nat_list_cmp_total}
use Rattle.std.proofs.lemmas.Map.Text.{is_eq-slice_cmp}
use Rattle.std.proofs.lemmas.Option.{IfSome_then}
use Rattle.std.proofs.Math.Seq.{take-length}
use Rattle.house_base.proofs.AmongLemmas.{bytes_eq-other}
use Rattle.house_base.specs.Text.{Text}
use Rattle.house_io.specs.Faults.{Rose}
use Rattle.house_io.specs.Files.{Contents, KeepsOthers, told_with}
use Rattle.house_io.specs.Sink.{AppendsWhereTold}
use Rattle.house_io.proofs.Counting.{Rose-from_earlier, Rose-until_later}
use Rattle.house_model.specs.declared.goal.Goal.TheVariants as goal
use Rattle.house_model.specs.Heard.{heard}
use Rattle.house_top.specs.declared.document.Document.TheVariants as document
use Rattle.house_top.specs.declared.filed.Filed.{Filed}
use Rattle.house_top.specs.declared.form.Form.{Form}
use Rattle.house_top.specs.declared.form.Form.TheVariants as form
use Rattle.house_top.specs.declared.status.Status.{Status}
use Rattle.house_top.specs.declared.status.Status.TheVariants as status
use Rattle.house_top.specs.Answer.{Answers, IsAnswerTo, IsAnswered}
use Rattle.house_top.specs.Audited.{StoresAudit}
use Rattle.house_top.specs.Due.{audit_of, due_file, due_status}
use Rattle.house_top.specs.Filed.{FilesWhatIsDue, IsGivenAndStored}
use Rattle.house_top.specs.Given.{Given, told}
use Rattle.house_top.specs.Promise.{Counts, EndsAsDue, FailsToWrite, Faults, IsCaused, KeepsFiles, KeepsThePromise, LoadRose, ReadsFarEnough, StoreRose, StoresWhatIsDue, WritesWhatIsDue, counted}
use Rattle.house_top.specs.Words.{is_storing, last_name, loads}
use Rattle.house_top.proofs.CallLemmas.{fault_promise, reads_unwritten, whole_ends, whole_promise, whole_writes, write_fault_ends, write_fault_writes}

-- The answer of `audit` is that of `run`.

pub audit_answers : (given : Option Given) (s : Status) (text : Text) → Answers (Some (form.Input goal.Run)) given s text → Answers (Some form.Audit) given s text
unfolding due_status
audit_answers given s text answers = record {
  answered = answers.answered;
  as_due = IfSome_then given answers.as_due (λ given answer. same given answer);
}
  where
    same : (given : Given) → IsAnswerTo (Some (form.Input goal.Run)) given s text → IsAnswerTo (Some form.Audit) given s text
    same given answer = record { ends = answer.ends; writes = answer.writes; of_call = answer.of_call }

pub audit_caused : (given : Option Given) (input : Option Text) (s : Status) (reads files : Counts) → IsCaused (Some (form.Input goal.Run)) given input s reads files → IsCaused (Some form.Audit) given input s reads files
unfolding due_status
audit_caused given input s reads files caused = record { read_fault = caused.read_fault; too_long = caused.too_long; bad_file = caused.bad_file }

pub audit_reads : {I : Type 0} (left : I → Option Text) (given : Option Given) (files : Counts) (s : Status) (old new : I) → ReadsFarEnough left (Some (form.Input goal.Run)) given files s old new →
    ReadsFarEnough left (Some form.Audit) given files s old new
audit_reads {I} left given files s old new reads = record {
  read_far_enough = reads.read_far_enough;
  read_fault_undecided = reads.read_fault_undecided;
  read_no_further = reads.read_no_further;
  read_to_end = reads.read_to_end;
  usage_reads_nothing = reads.usage_reads_nothing;
  unheard_is_unread = reads.unheard_is_unread;
  bad_file_reads_nothing = reads.bad_file_reads_nothing;
}

-- Files that are as they were.

pub same_others : (before after : Option Contents) (name : Text) → after ≡ before → KeepsOthers before after name
same_others before after name same = subst (λ (after : Option Contents). KeepsOthers before after name) (sym same) (still before)
  where
    still : (o : Option Contents) → KeepsOthers o o name
    still None = tt
    still (Some files) = λ other different. refl

-- all files but the one that was stored
stored_others : (before : Option Contents) (name bytes : Text) → KeepsOthers before (told_with before name bytes) name
stored_others None name bytes = tt
stored_others (Some files) name bytes = λ other different.
    get-insert nat_list_cmp_total files name bytes other
    ∙ ap (λ same. cond same (Some bytes) (get files other)) (is_eq-slice_cmp other name ∙ bytes_eq-other other name different)

-- Words that store none.

pub reads_stores : {F : Type 0} (shown : F → Option Contents) (asked : Option Form) (names : List Text) (given : Option Given) (s : Status) (old new : F) → is_storing asked ≡ false →
    KeepsFiles shown (loads asked names) old new → StoresWhatIsDue shown asked names given s old new
reads_stores {F} shown asked names given s old new none kept = record {
  stored = λ done storing. absurd (let wrong : false ≡ true = sym none ∙ storing in cc);
  unless_stored = λ undone unfailed. kept.files_unchanged;
  others_unchanged = same_others (shown old) (shown new) (last_name names) kept.files_unchanged;
  unasked = λ unasked. kept;
}

pub reads_fails : {O F : Type 0} (told : O → Option Text) (shown : F → Option Contents) (asked : Option Form) (names : List Text) (given : Option Given) (input : Option Text) (s : Status) (faults : Faults) (old new : O)
    (before after : F) → is_storing asked ≡ false → KeepsFiles shown (loads asked names) before after → EndsAsDue asked given input s faults → FailsToWrite told shown asked given s faults old new before after
reads_fails {O} {F} told shown asked names given input s faults old new before after none kept ends = record {
  write_fault_by_one = λ failed. elim (ends.write_fault failed) [
    | inl wrote ↦ inl (wrote, kept.files_unchanged)
    | inr stored ↦ absurd (let wrong : false ≡ true = sym none ∙ stored.0 in cc)
  ];
}

pub not_storing : (asked : Option Form) → (asked ≡ Some form.Audit → ⊥) → (asked ≡ Some (form.Judged document.OldAudit) → ⊥) → is_storing asked ≡ false
not_storing None other others = refl
not_storing (Some (form.Input g)) other others = refl
not_storing (Some form.Opened) other others = refl
not_storing (Some (form.Slip name)) other others = refl
not_storing (Some form.Audit) other others = absurd (other refl)
not_storing (Some (form.Judged document.Slip)) other others = refl
not_storing (Some (form.Judged document.Audit)) other others = refl
not_storing (Some (form.Judged document.OldAudit)) other others = absurd (others refl)
not_storing (Some form.Join) other others = refl
not_storing (Some form.Reserve) other others = refl

-- the audit of what is given is to be stored where the call is done
pub audit_files : (names : List Text) (input : Option Text) (files : Option Contents) (a : Filed) → StoresAudit input a → FilesWhatIsDue (Some form.Audit) (told (Some form.Audit) names input files) a
audit_files names input files a stores = record {
  stored = λ done. by input (stores.audit done);
  unless_done = stores.unless_done;
}
  where
    by : (input : Option Text) → IfSome input (λ input. IsSomeAnd a.file (λ file. file.items ≡ audit_of (heard input))) →
        IfSome (told (Some form.Audit) names input files) (λ given. IsSomeAnd a.file (λ file. file.items ≡ due_file (Some form.Audit) given))
    by None is = tt
    by (Some input) is = is

-- A count that rose has risen when more calls have followed.

load_later : (asked : Option Form) (first mid last : ℕ) → first ≤ mid → mid ≤ last → LoadRose asked (first, mid) → LoadRose asked (first, last)
load_later None first mid last le more rose = absurd rose
load_later (Some (form.Input g)) first mid last le more rose = absurd rose
load_later (Some form.Audit) first mid last le more rose = absurd rose
load_later (Some (form.Slip name)) first mid last le more rose = absurd rose
load_later (Some form.Opened) first mid last le more rose = Rose-until_later first mid last le rose more
load_later (Some (form.Judged d)) first mid last le more rose = Rose-until_later first mid last le rose more
load_later (Some form.Join) first mid last le more rose = Rose-until_later first mid last le rose more
load_later (Some form.Reserve) first mid last le more rose = Rose-until_later first mid last le rose more

caused_later : (asked : Option Form) (given : Option Given) (input : Option Text) (s : Status) (reads : Counts) (first mid last : ℕ) → first ≤ mid → mid ≤ last →
    IsCaused asked given input s reads (first, mid) → IsCaused asked given input s reads (first, last)
caused_later asked given input s reads first mid last le more caused = record {
  read_fault = λ is. elim (caused.read_fault is) [ inl read ↦ inl read | inr loaded ↦ inr (load_later asked first mid last le more loaded) ];
  too_long = λ is unloaded. caused.too_long is (λ loaded. unloaded (load_later asked first mid last le more loaded));
  bad_file = caused.bad_file;
}

reads_later : {I : Type 0} (left : I → Option Text) (asked : Option Form) (given : Option Given) (first mid last : ℕ) (s : Status) (old new : I) → first ≤ mid → mid ≤ last →
    ReadsFarEnough left asked given (first, mid) s old new → ReadsFarEnough left asked given (first, last) s old new
reads_later {I} left asked given first mid last s old new le more reads = record {
  read_far_enough = reads.read_far_enough;
  read_fault_undecided = λ is unloaded. reads.read_fault_undecided is (λ loaded. unloaded (load_later asked first mid last le more loaded));
  read_no_further = reads.read_no_further;
  read_to_end = reads.read_to_end;
  usage_reads_nothing = reads.usage_reads_nothing;
  unheard_is_unread = reads.unheard_is_unread;
  bad_file_reads_nothing = reads.bad_file_reads_nothing;
}

-- A call that gives nothing and stores nothing.

pub unstored : {F : Type 0} (shown : F → Option Contents) (asked : Option Form) (names : List Text) (given : Option Given) (s : Status) (old new : F) → is_storing asked ≡ true → (s ≡ status.Done → ⊥) →
    shown new ≡ shown old → StoresWhatIsDue shown asked names given s old new
unstored {F} shown asked names given s old new storing undone same = record {
  stored = λ done storing. absurd (undone done);
  unless_stored = λ is failed. same;
  others_unchanged = same_others (shown old) (shown new) (last_name names) same;
  unasked = λ unasked. absurd (let wrong : true ≡ false = sym storing ∙ unasked in cc);
}

pub wrote_none : {O F : Type 0} (told : O → Option Text) (shown : F → Option Contents) (asked : Option Form) (given : Option Given) (s : Status) (faults : Faults) (old new : O) (before after : F) →
    (s ≡ status.WriteFault → ⊥) → FailsToWrite told shown asked given s faults old new before after
wrote_none {O} {F} told shown asked given s faults old new before after unfailed = record { write_fault_by_one = λ failed. absurd (unfailed failed) }

-- Behind an answer: it is given, and then its file is stored.

not_write_fault : (s : Status) → IsAnswered s → s ≡ status.WriteFault → ⊥
not_write_fault s answered is = subst IsAnswered is answered

kept_unless_done : {F Z : Type 0} (shown : F → Option Contents) (name : Text) (o : Option (Vec ℕ Z)) (old new : F) → MatchOption o (new ≡ old) (λ file. shown new ≡ told_with (shown old) name file.items) → o ≡ None → shown new ≡ shown old
kept_unless_done {F} {Z} shown name None old new kept none = ap shown kept
kept_unless_done {F} {Z} shown name (Some file) old new kept none = absurd (let wrong : ⊥ = cc in wrong)

by_others : {F Z : Type 0} (shown : F → Option Contents) (name : Text) (o : Option (Vec ℕ Z)) (old new : F) → MatchOption o (new ≡ old) (λ file. shown new ≡ told_with (shown old) name file.items) →
    KeepsOthers (shown old) (shown new) name
by_others {F} {Z} shown name None old new kept = same_others (shown old) (shown new) name (ap shown kept)
by_others {F} {Z} shown name (Some file) old new kept = subst (λ (after : Option Contents). KeepsOthers (shown old) after name) (sym kept) (stored_others (shown old) name file.items)

by_file : {F Z : Type 0} (shown : F → Option Contents) (name due : Text) (o : Option (Vec ℕ Z)) (old new : F) → MatchOption o (new ≡ old) (λ file. shown new ≡ told_with (shown old) name file.items) →
    IsSomeAnd o (λ file. file.items ≡ due) → shown new ≡ told_with (shown old) name due
by_file {F} {Z} shown name due None old new kept is = absurd is
by_file {F} {Z} shown name due (Some file) old new kept is = kept ∙ ap (told_with (shown old) name) is

-- start: the files when the call began, before: when its answer stood, after: at the end; and the counts of their faults
module _ {O F : Type 0} (told : O → Option Text) (shown : F → Option Contents) (f : Form) (given : Option Given) (a : Filed) (name : Text) (writes : Counts) (first mid last : ℕ) (s : Status) (old new : O) (start before after : F)
    (storing : is_storing (Some f) ≡ true) (le : first ≤ mid) (more : mid ≤ last) (answers : Answers (Some f) given a.answer.status a.answer.text.items)
    (done : IsGivenAndStored told shown a name writes (mid, last) s old new before after) where
  abbrev Behind : Type 0
  Behind = (AppendsWhereTold (told old) (told new) a.answer.text.items × (s ≡ a.answer.status)) ⊎
      ((s ≡ status.WriteFault) × ((count : ℕ) × AppendsWhereTold (told old) (told new) (take count a.answer.text.items)))

  -- the answer was given whole and the call ends so, or a front of it was and the call failed to write
  behind : Behind
  behind = elim done [
    | inl given_whole ↦ elim given_whole.1 [
      | inl stored ↦ inl (given_whole.0, stored.0)
      | inr failed ↦ inr (failed.0, (length a.answer.text.items, subst (AppendsWhereTold (told old) (told new)) (sym (take-length a.answer.text.items)) given_whole.0))
    ]
    | inr failed ↦ inr (failed.0, failed.3)
  ]

  failed_for : s ≡ status.WriteFault → Rose writes.0 writes.1 ⊎ StoreRose (Some f) (first, last)
  failed_for is = elim done [
    | inl given_whole ↦ elim given_whole.1 [
      | inl stored ↦ absurd (not_write_fault a.answer.status answers.answered (sym stored.0 ∙ is))
      | inr failed ↦ inr (storing, Rose-from_earlier first mid last le failed.2)
    ]
    | inr failed ↦ inl failed.2
  ]

  pub filed_ends : (input : Option Text) (reads : Counts) → IsCaused (Some f) given input a.answer.status reads (first, mid) → EndsAsDue (Some f) given input s (counted reads (first, last) writes)
  filed_ends input reads caused = by behind where
    by : Behind → EndsAsDue (Some f) given input s (counted reads (first, last) writes)
    by (inl (appended, is)) = subst (λ s. EndsAsDue (Some f) given input s (counted reads (first, last) writes)) (sym is)
        (whole_ends (Some f) f given input a.answer.status a.answer.text.items (counted reads (first, last) writes) refl answers
        (caused_later (Some f) given input a.answer.status reads first mid last le more caused))
    by (inr (is, front)) = subst (λ s. EndsAsDue (Some f) given input s (counted reads (first, last) writes)) (sym is)
        (write_fault_ends (Some f) f given input (counted reads (first, last) writes) refl (failed_for is))

  pub filed_writes : WritesWhatIsDue told (Some f) given s old new
  filed_writes = by behind where
    by : Behind → WritesWhatIsDue told (Some f) given s old new
    by (inl (appended, is)) = subst (λ s. WritesWhatIsDue told (Some f) given s old new) (sym is) (whole_writes told (Some f) given a.answer.status a.answer.text.items old new answers appended)
    by (inr (is, front)) = subst (λ s. WritesWhatIsDue told (Some f) given s old new) (sym is) (write_fault_writes told (Some f) given a.answer.status a.answer.text.items old new answers front)

  pub filed_promise : KeepsThePromise (Some f) given s (told old) (told new)
  filed_promise = by behind where
    by : Behind → KeepsThePromise (Some f) given s (told old) (told new)
    by (inl (appended, is)) = subst (λ s. KeepsThePromise (Some f) given s (told old) (told new)) (sym is) (whole_promise (Some f) given a.answer.status a.answer.text.items (told old) (told new) answers appended)
    by (inr (is, front)) = subst (λ s. KeepsThePromise (Some f) given s (told old) (told new)) (sym is) (fault_promise (Some f) given status.WriteFault (told old) (told new) (λ is. cc) (λ is. cc) tt)

  pub filed_reads : {I : Type 0} (left : I → Option Text) (taken left_over : I) → ReadsFarEnough left (Some f) given (first, mid) a.answer.status taken left_over → ReadsFarEnough left (Some f) given (first, last) s taken left_over
  filed_reads {I} left taken left_over reads = by behind where
    later : ReadsFarEnough left (Some f) given (first, last) a.answer.status taken left_over
    later = reads_later left (Some f) given first mid last a.answer.status taken left_over le more reads

    by : Behind → ReadsFarEnough left (Some f) given (first, last) s taken left_over
    by (inl (appended, is)) = subst (λ s. ReadsFarEnough left (Some f) given (first, last) s taken left_over) (sym is) later
    by (inr (is, front)) = subst (λ s. ReadsFarEnough left (Some f) given (first, last) s taken left_over) (sym is)
        (reads_unwritten left (Some f) given (first, last) a.answer.status taken left_over answers.answered later)

  pub filed_stores : (names : List Text) → last_name names ≡ name → shown before ≡ shown start → FilesWhatIsDue (Some f) given a → StoresWhatIsDue shown (Some f) names given s start after
  filed_stores names named same files = record {
    stored = λ is _. elim done [
      | inl given_whole ↦ elim given_whole.1 [
        | inl kept ↦ IfSome_then given (files.stored (sym kept.0 ∙ is)) (λ given file. subst (λ n. shown after ≡ told_with (shown start) n (due_file (Some f) given)) (sym named)
            (subst (λ (o : Option Contents). shown after ≡ told_with o name (due_file (Some f) given)) same (by_file shown name (due_file (Some f) given) a.file before after kept.1 file)))
        | inr failed ↦ absurd (let wrong : status.WriteFault ≡ status.Done = sym failed.0 ∙ is in cc)
      ]
      | inr failed ↦ absurd (let wrong : status.WriteFault ≡ status.Done = sym failed.0 ∙ is in cc)
    ];
    unless_stored = λ undone unfailed. elim done [
      | inl given_whole ↦ elim given_whole.1 [
        | inl kept ↦ kept_unless_done shown name a.file before after kept.1 (files.unless_done (λ is. undone (kept.0 ∙ is))) ∙ same
        | inr failed ↦ absurd (unfailed failed.0)
      ]
      | inr failed ↦ absurd (unfailed failed.0)
    ];
    others_unchanged = subst (KeepsOthers (shown start) (shown after)) (sym named) (subst (λ (o : Option Contents). KeepsOthers o (shown after) name) same others);
    unasked = λ unasked. absurd (let wrong : true ≡ false = sym storing ∙ unasked in cc);
  }
    where
      others : KeepsOthers (shown before) (shown after) name
      others = elim done [
        | inl given_whole ↦ elim given_whole.1 [
          | inl kept ↦ by_others shown name a.file before after kept.1
          | inr failed ↦ failed.1
        ]
        | inr failed ↦ same_others (shown before) (shown after) name (ap shown failed.1)
      ]

  pub filed_fails : (reads : Counts) → shown before ≡ shown start → FailsToWrite told shown (Some f) given s (counted reads (first, last) writes) old new start after
  filed_fails reads same = record {
    write_fault_by_one = λ is. elim done [
      | inl given_whole ↦ elim given_whole.1 [
        | inl stored ↦ absurd (not_write_fault a.answer.status answers.answered (sym stored.0 ∙ is))
        | inr failed ↦ inr ((storing, Rose-from_earlier first mid last le failed.2), IfSome_then given answers.as_due (λ given answer. (a.answer.text.items, answer.writes, given_whole.0)))
      ]
      | inr failed ↦ inl (failed.2, ap shown failed.1 ∙ same)
    ];
  }

-- What holds of words and names holds where they are asked for.
pub asked_by : (P : Option Form → List Text → Type 0) (asked : Option Form) (f : Form) (names these : List Text) → asked ≡ Some f → names ≡ these → P (Some f) these → P asked names
asked_by P asked f names these some is holds = subst (λ a. P a names) (sym some) (subst (P (Some f)) (sym is) holds)
