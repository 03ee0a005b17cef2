-- The answers to the words that tell a slip, and what is promised of slips.
use Rattle.std.proofs.Common.{◌≡◌, ℕ, Bool, true, false, cond, [], ◌∷◌, List, Option, Some, None, Result, Ok, Err, length, codes, ◌*◌, refl, sym, ap, ◌∙◌, subst}
use Rattle.std.specs.Prelude.{◌==◌, IfOk, IfSome, IsSomeAnd, nat_le}
use Rattle.std.specs.Option.{option_map}
use Rattle.std.proofs.lemmas.Bool.{eqb-true}
use Rattle.house_io.specs.Faults.{Rose}
use Rattle.house_io.specs.Files.{Contents}
use Rattle.house_io.specs.Sink.{AppendsWhereTold}
use Rattle.house_base.specs.declared.limits.TheConstants.{DOLLAR}
use Rattle.house_base.specs.Text.{Text}
use Rattle.house_model.specs.declared.goal.Goal.TheVariants as goal
use Rattle.house_model.specs.declared.limits.TheConstants.{MOST_BYTES}
use Rattle.house_model.specs.Headline.{AreOfCall}
use Rattle.house_model.specs.Heard.{heard}
use Rattle.house_model.specs.Report.{line_of, over}
use Rattle.house_model.specs.Reviews.{profile}
use Rattle.house_model.specs.Text.{Lines}
use Rattle.house_top.specs.declared.answer.Answer.{Answer}
use Rattle.house_top.specs.declared.document.Document.TheVariants as document
use Rattle.house_top.specs.declared.form.Form.{Form}
use Rattle.house_top.specs.declared.form.Form.TheVariants as form
use Rattle.house_top.specs.declared.status.Status.{Status}
use Rattle.house_top.specs.declared.status.Status.TheVariants as status
use Rattle.house_top.specs.Answer.{Answers, IsAnswerOfRun, IsAnswerTo, IsOfRun, ReadsRun, status_of_answer}
use Rattle.house_top.specs.Due.{IsDueText, IsSlipText, IsTextOfRun, due_status, reported, run_behind, slip_asked, slip_judged, status_of_run}
use Rattle.house_top.specs.Given.{Given, input_alone, told}
use Rattle.house_top.specs.Judged.{Said, judged, of_loaded, of_slip_text}
use Rattle.house_top.specs.Opening.{file_at}
use Rattle.house_top.specs.Promise.{Counts, Gives, IsCaused, ReadsFarEnough}
use Rattle.house_top.specs.Slipped.{AnswersSlip, IsSlipHeard}
use Rattle.input_run.specs.declared.fault.InputFault.{InputFault}
use Rattle.input_run.specs.declared.fault.InputFault.TheVariants as faults
use Rattle.input_run.specs.declared.input.Heard.{Heard}
use Rattle.input_run.specs.declared.input.Heard.TheVariants as what
use Rattle.input_run.specs.Hearing.{HearsWhereTold, TellsEnd}
use Rattle.input_run.specs.Input.{DecidedWhereTold, NoFurtherWhereTold}
use Rattle.slip_check.specs.Form.{chance_in, fault_in, rows_of, slip_in}
use Rattle.slip_check.specs.Slip.{worth}
use Rattle.slip_text.specs.Told.{OwnReviewsAreInNoSlip, PrintsChances, slip_told}
use Rattle.slip_text.proofs.ToldLemmas.{own_reviews, prints_chances}
use Rattle.house_top.proofs.AnswerLemmas.{goes_to_report, input_answer}
use Rattle.house_top.proofs.FormLemmas.{input_caused, input_reads, run_answered}
use Rattle.house_top.proofs.ReadLemmas.{reads_answer}

-- What was heard of an input.

pub slip_heard : (name : Text) (before after : Option Text) (heard : Heard) (a : Answer) → HearsWhereTold goal.Run [] before after heard → IsSlipHeard name heard a → AnswersSlip name before a
slip_heard name before after (what.Lines run) a (lines, has, few, tells) (report, told) = record {
  report = report;
  answers = input_answer goal.Run [] before after (what.Lines run) report.status report.text.items (lines, has, few, tells) (λ ls has. (told ls has).answers);
  ends = (told lines has).ends;
  slip = λ done. of_input before after tells done;
  unless_done = (told lines has).unless_done;
}
  where
    of_input : (before after : Option Text) → IfSome before (λ input. IsSomeAnd after (λ rest. TellsEnd goal.Run [] input rest lines)) → a.status ≡ status.Done →
        IfSome before (λ input. a.text.items ≡ slip_told name (profile (heard input)))
    of_input None after tells done = tt
    of_input (Some input) None tells done = absurd tells
    of_input (Some input) (Some rest) tells done =
        let is = told lines has in
        let call = is.answers.of_call refl (sym is.ends ∙ done) in
        let same : heard input ≡ lines = (tells.all (goes_to_report lines call.done)).2 in
        is.slip done ∙ ap (λ (ls : Lines). slip_told name (profile ls)) (sym same)
slip_heard name before after what.TooLong a over (is, text) = record {
  report = a;
  answers = input_answer goal.Run [] before after what.TooLong a.status a.text.items over (is, text);
  ends = refl;
  slip = λ done. absurd (let wrong : status.TooLong ≡ status.Done = sym is ∙ done in cc);
  unless_done = λ undone. refl;
}

-- how far is read where there is an answer
pub slip_heard_reads : {I : Type 0} (left : I → Option Text) (name : Text) (heard : Heard) (a : Answer) (old new : I) → HearsWhereTold goal.Run [] (left old) (left new) heard → IsSlipHeard name heard a →
    DecidedWhereTold goal.Run [] (left old) (left new) → NoFurtherWhereTold goal.Run [] (left old) (left new) → ReadsRun left goal.Run [] a.status old new
slip_heard_reads {I} left name (what.Lines run) a old new (lines, has, few, tells) (report, told) decided no_further =
    let answers = input_answer goal.Run [] (left old) (left new) (what.Lines run) report.status report.text.items (lines, has, few, tells) (λ ls has. (told ls has).answers) in
    subst (λ s. ReadsRun left goal.Run [] s old new) (sym (told lines has).ends)
    (reads_answer left goal.Run [] (what.Lines run) report.status report.text.items old new answers.answered (lines, has, few, tells) (λ ls has. (told ls has).answers) decided no_further)
slip_heard_reads {I} left name what.TooLong a old new over (is, text) decided no_further =
    let answers = input_answer goal.Run [] (left old) (left new) what.TooLong a.status a.text.items over (is, text) in
    reads_answer left goal.Run [] what.TooLong a.status a.text.items old new answers.answered over (is, text) decided no_further

-- The answer to the words.

-- the text by the status of the run
slip_or_text : (name : Text) (s : Status) (input text : Text) → (s ≡ status.Done → text ≡ slip_told name (profile (heard input))) →
    ((s ≡ status.Done → ⊥) → IsTextOfRun (run_behind goal.Run []) input text) → IsSlipText name s input text
slip_or_text name status.Done input text slip other = slip refl
slip_or_text name status.Usage input text slip other = other (λ is. cc)
slip_or_text name (status.Refused line reason) input text slip other = other (λ is. cc)
slip_or_text name status.Short input text slip other = other (λ is. cc)
slip_or_text name status.ReadFault input text slip other = other (λ is. cc)
slip_or_text name status.WriteFault input text slip other = other (λ is. cc)
slip_or_text name status.Memory input text slip other = other (λ is. cc)
slip_or_text name status.TooLong input text slip other = other (λ is. cc)
slip_or_text name (status.BadFile why) input text slip other = other (λ is. cc)
slip_or_text name (status.Differs row) input text slip other = other (λ is. cc)
slip_or_text name (status.Wrong worth) input text slip other = other (λ is. cc)

slip_answer : (name : Text) (names : List Text) (input : Option Text) (files : Option Contents) (a : Answer) → AnswersSlip name input a →
    Answers (Some (form.Slip name)) (told (Some (form.Slip name)) names input files) a.status a.text.items
unfolding due_status
slip_answer name names input files a told = record {
  answered = run_answered a.status (subst IsOfRun (sym told.ends) told.answers.answered);
  as_due = where_told input told.answers.as_run told.slip;
}
  where
    where_told : (input : Option Text) → IfSome input (λ input. IsAnswerOfRun (run_behind goal.Run []) input told.report.status told.report.text.items) →
        (a.status ≡ status.Done → IfSome input (λ input. a.text.items ≡ slip_told name (profile (heard input)))) →
        IfSome (option_map input_alone input) (λ given. IsAnswerTo (Some (form.Slip name)) given a.status a.text.items)
    where_told None as_run slip = tt
    where_told (Some input) as_run slip =
        let ends = told.ends ∙ as_run.ends in
        record {
          ends = ends;
          writes = slip_or_text name (status_of_run (run_behind goal.Run []) input) input a.text.items (λ done. slip (ends ∙ done))
              (λ undone. subst (IsTextOfRun (run_behind goal.Run []) input) (sym (told.unless_done (λ done. undone (sym ends ∙ done)))) as_run.writes);
          of_call = λ done. as_run.of_call refl (sym told.ends ∙ done);
        }

pub slip_answers : (r : Result Answer InputFault) (name : Text) (names : List Text) (input : Option Text) (files : Option Contents) → IfOk r (AnswersSlip name input) →
    IfOk r (λ answer. Answers (Some (form.Slip name)) (told (Some (form.Slip name)) names input files) answer.status answer.text.items)
slip_answers (Ok answer) name names input files told = slip_answer name names input files answer told
slip_answers (Err fault) name names input files told = tt

-- Why the words fail, and how far the input is read: as with `run`.

as_run_caused : (name : Text) (given : Option Given) (input : Option Text) (s : Status) (reads loads : Counts) → IsCaused (Some (form.Input goal.Run)) given input s reads loads →
    IsCaused (Some (form.Slip name)) given input s reads loads
unfolding due_status
as_run_caused name given input s reads loads caused = record { read_fault = caused.read_fault; too_long = caused.too_long; bad_file = caused.bad_file }

pub slip_caused : (r : Result Answer InputFault) (name : Text) (given : Option Given) (input : Option Text) (reads loads : Counts) → IfOk r (AnswersSlip name input) →
    (r ≡ Err faults.Failed → Rose reads.0 reads.1) → IsCaused (Some (form.Slip name)) given input (status_of_answer r) reads loads
slip_caused (Ok answer) name given input reads loads told failed =
    subst (λ s. IsCaused (Some (form.Slip name)) given input s reads loads) (sym told.ends)
    (as_run_caused name given input told.report.status reads loads (input_caused (Ok told.report) goal.Run given input reads loads told.answers (λ is. absurd (let wrong : ⊥ = cc in wrong))))
slip_caused (Err fault) name given input reads loads told failed =
    as_run_caused name given input (status_of_answer (Err fault)) reads loads (input_caused (Err fault) goal.Run given input reads loads tt failed)

as_run_reads : {I : Type 0} (left : I → Option Text) (name : Text) (given : Option Given) (loads : Counts) (s : Status) (old new : I) → ReadsFarEnough left (Some (form.Input goal.Run)) given loads s old new →
    ReadsFarEnough left (Some (form.Slip name)) given loads s old new
as_run_reads {I} left name given loads s old new reads = record {
  read_far_enough = reads.read_far_enough;
  read_fault_undecided = reads.read_fault_undecided;
  read_no_further = reads.read_no_further;
  read_to_end = reads.read_to_end;
  usage_reads_nothing = reads.usage_reads_nothing;
  unheard_is_unread = reads.unheard_is_unread;
  bad_file_reads_nothing = reads.bad_file_reads_nothing;
}

pub slip_reads : {I : Type 0} (left : I → Option Text) (r : Result Answer InputFault) (name : Text) (names : List Text) (files : Option Contents) (loads : Counts) (old new : I) →
    IfOk r (AnswersSlip name (left old)) → ReadsRun left goal.Run [] (status_of_answer r) old new →
    ReadsFarEnough left (Some (form.Slip name)) (told (Some (form.Slip name)) names (left old) files) loads (status_of_answer r) old new
slip_reads {I} left (Ok answer) name names files loads old new told_slip reads =
    subst (λ s. ReadsFarEnough left (Some (form.Slip name)) (told (Some (form.Slip name)) names (left old) files) loads s old new) (sym told_slip.ends)
    (as_run_reads left name (told (Some (form.Slip name)) names (left old) files) loads told_slip.report.status old new
    (input_reads left (Ok told_slip.report) goal.Run names files loads old new told_slip.answers (subst (λ s. ReadsRun left goal.Run [] s old new) told_slip.ends reads)))
slip_reads {I} left (Err fault) name names files loads old new told_slip reads =
    as_run_reads left name (told (Some (form.Slip name)) names (left old) files) loads (status_of_answer (Err fault)) old new (input_reads left (Err fault) goal.Run names files loads old new tt reads)

-- What is promised of slips.

-- a slip that is told is also that of the lines without those of its applicant's person
pub slip_is_due : (asked : Option Form) (given : Given) (text : Text) (before after : Option Text) → due_status asked given ≡ status.Done → IsDueText asked given text →
    IfSome (reported asked given) AreOfCall → AppendsWhereTold before after text → IfSome (slip_asked asked given) (λ slip. Gives before after (OwnReviewsAreInNoSlip slip.0 slip.1))
unfolding due_status
slip_is_due None given text before after done due call appended = tt
slip_is_due (Some (form.Input g)) given text before after done due call appended = tt
slip_is_due (Some form.Opened) given text before after done due call appended = tt
slip_is_due (Some form.Audit) given text before after done due call appended = tt
slip_is_due (Some (form.Judged d)) given text before after done due call appended = tt
slip_is_due (Some form.Join) given text before after done due call appended = tt
slip_is_due (Some form.Reserve) given text before after done due call appended = tt
slip_is_due (Some (form.Slip name)) given text before after done due call appended =
    let lines = heard given.input in
    let written : text ≡ slip_told name (profile lines) = subst (λ s. IsSlipText name s given.input text) done due in
    (text, subst (OwnReviewsAreInNoSlip name lines) (sym written) (own_reviews name lines call), appended)

-- a slip that is called right is of the form, and prints what it is worth
right_slip : (bytes : Text) (fault : Option ℕ) (same : Bool) → fault_in bytes ≡ fault → (chance_in (rows_of bytes) == worth (slip_in (rows_of bytes))) ≡ same →
    (of_slip_text bytes fault).0 ≡ status.Done → PrintsChances bytes
right_slip bytes (Some line) same formed is done = absurd (let wrong : ⊥ = cc in wrong)
right_slip bytes None true formed is done = prints_chances bytes (record { formed = formed; worth = eqb-true (chance_in (rows_of bytes)) (worth (slip_in (rows_of bytes))) is })
right_slip bytes None false formed is done =
    absurd (let wrong : status.Wrong (worth (slip_in (rows_of bytes))) ≡ status.Done = sym (ap (λ b. (said b).0) is) ∙ done in cc)
  where
    said : Bool → Said
    said same = cond same (status.Done, line_of (codes "slip" ∷ codes "yes" ∷ [])) (status.Wrong (worth (slip_in (rows_of bytes))), line_of (codes "wrong" ∷ over (worth (slip_in (rows_of bytes))) ((slip_in (rows_of bytes)).persons * DOLLAR) ∷ []))

right_file : (file : Option Text) → (judged document.Slip file).0 ≡ status.Done → IfSome file PrintsChances
right_file None done = tt
right_file (Some bytes) done = within (nat_le (length bytes) MOST_BYTES) done
  where
    within : (few : Bool) → (of_loaded document.Slip (cond few (Ok bytes) (Err status.TooLong))).0 ≡ status.Done → PrintsChances bytes
    within true done = right_slip bytes (fault_in bytes) (chance_in (rows_of bytes) == worth (slip_in (rows_of bytes))) refl refl done
    within false done = absurd (let wrong : ⊥ = cc in wrong)

pub judged_right : (asked : Option Form) (given : Given) → due_status asked given ≡ status.Done → IfSome (slip_judged asked given) PrintsChances
unfolding due_status
judged_right None given done = tt
judged_right (Some (form.Input g)) given done = tt
judged_right (Some form.Opened) given done = tt
judged_right (Some form.Audit) given done = tt
judged_right (Some (form.Slip name)) given done = tt
judged_right (Some (form.Judged document.Slip)) given done = right_file (file_at given.files 0) done
judged_right (Some (form.Judged document.Audit)) given done = tt
judged_right (Some (form.Judged document.OldAudit)) given done = tt
judged_right (Some form.Join) given done = tt
judged_right (Some form.Reserve) given done = tt
