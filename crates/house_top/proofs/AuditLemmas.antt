-- The audit of a run.
use Rattle.std.proofs.Common.{◌≡◌, ◌≤◌, List, [], true, false, Option, Some, None, Err, length, refl, sym, ap, ◌∙◌, subst}
use Rattle.std.specs.Prelude.{IfSome, IsAscii, IsSomeAnd, is_some}
use Rattle.house_base.specs.declared.answer.Took.{Took}
use Rattle.house_base.specs.Text.{Text}
use Rattle.house_model.specs.declared.goal.Goal.TheVariants as goal
use Rattle.house_model.specs.declared.limits.TheConstants.{MOST_LINES}
use Rattle.house_model.specs.Ending.{Ended, in_force, last_ended, stop_of}
use Rattle.house_model.specs.Heard.{heard}
use Rattle.house_model.specs.LineMarks.{marks, marks_after}
use Rattle.house_model.specs.Runs.{end_of, halt, report_of, taken}
use Rattle.house_model.specs.EndTexts.{IsTextOfEnd}
use Rattle.house_model.specs.Text.{Lines}
use Rattle.house_model.proofs.EndTextLemmas.{end_text-ascii}
use Rattle.house_model.proofs.MarkLemmas.{length-marks_after, marks-unstopped}
use Rattle.audit_chain.specs.Chain.{audit_bytes}
use Rattle.house_top.specs.declared.filed.Filed.{Filed}
use Rattle.house_top.specs.declared.status.Status.{Status}
use Rattle.house_top.specs.declared.status.Status.TheVariants as status
use Rattle.house_top.specs.Answer.{IsEndAnswer, IsHeardAnswer, status_of_answer}
use Rattle.house_top.specs.Audited.{CanBeAudited, IsAuditedHeard, IsAuditedRun, StoresAudit}
use Rattle.house_top.specs.Filed.{status_of_filed}
use Rattle.house_top.specs.Due.{audit_of}
use Rattle.house_top.proofs.AnswerLemmas.{all_in_force, done_parts, goes_to_report, taken_done}
use Rattle.input_run.specs.declared.fault.InputFault.{InputFault}
use Rattle.input_run.specs.declared.fault.InputFault.TheVariants as fault
use Rattle.input_run.specs.declared.input.Heard.{Heard}
use Rattle.input_run.specs.declared.input.Heard.TheVariants as what
use Rattle.input_run.specs.declared.kept.Kept.{Kept}
use Rattle.input_run.specs.declared.line_run.LineRun.{LineRun}
use Rattle.input_run.specs.Hearing.{HasLines, HearsWhereTold, TellsEnd}
use Rattle.input_run.specs.Kept.{AreKept, keeps}

-- The lines that a run keeps that came to its report.

-- no line ends a run that came to its report
free_of : (lines : Lines) → end_of goal.Run lines ≡ Ended.Done → stop_of (halt goal.Run) lines ≡ None
unfolding end_of
free_of lines done = (done_parts (stop_of (halt goal.Run) lines) (last_ended lines) done).0

kept_in : (lines : Lines) (run : LineRun) (kept : Kept) → HasLines goal.Run lines run → run.kept ≡ Some kept → AreKept goal.Run (in_force (halt goal.Run) lines) kept
kept_in lines run kept has is = subst (λ k. IfSome k (AreKept goal.Run (in_force (halt goal.Run) lines))) is has.taken.kept

done_lines : (lines : Lines) (s : Status) (text : Text) → IsEndAnswer goal.Run lines s text → s ≡ status.Done → in_force (halt goal.Run) lines ≡ lines
done_lines lines s text answer done = all_in_force lines (answer.of_call refl done).done

pub kept_lines : (lines : Lines) (run : LineRun) (kept : Kept) (s : Status) (text : Text) → HasLines goal.Run lines run → run.kept ≡ Some kept → IsEndAnswer goal.Run lines s text → s ≡ status.Done →
    kept.lines ≡ lines
kept_lines lines run kept s text has is answer done = (kept_in lines run kept has is).lines ∙ done_lines lines s text answer done

pub kept_marks : (lines : Lines) (run : LineRun) (kept : Kept) (s : Status) (text : Text) → HasLines goal.Run lines run → run.kept ≡ Some kept → IsEndAnswer goal.Run lines s text → s ≡ status.Done →
    kept.marks.items ≡ marks lines
kept_marks lines run kept s text has is answer done =
    let free : stop_of (halt goal.Run) lines ≡ None = free_of lines (answer.of_call refl done).done in
    (kept_in lines run kept has is).marks ∙ ap (marks_after goal.Run []) (done_lines lines s text answer done) ∙ sym (marks-unstopped lines free)

-- its text is the report of its lines
report_text : (lines : Lines) (s : Status) (text : Text) → IsEndAnswer goal.Run lines s text → s ≡ status.Done → text ≡ report_of lines
report_text lines s text answer done =
    let call = answer.of_call refl done in
    let writes : text ≡ report_of (taken goal.Run lines) = subst (λ (e : Ended). IsTextOfEnd e goal.Run (taken goal.Run lines) text) call.done answer.writes in
    writes ∙ ap report_of (taken_done lines call.done)

-- What `audit_text` asks for.

pub as_many_marks : (lines : Lines) (run : LineRun) (kept : Kept) → HasLines goal.Run lines run → run.kept ≡ Some kept → length kept.marks.items ≡ length kept.lines
as_many_marks lines run kept has is =
    let are = kept_in lines run kept has is in
    ap length are.marks ∙ length-marks_after goal.Run [] (in_force (halt goal.Run) lines) ∙ sym (ap length are.lines)

pub few_kept : (lines : Lines) (run : LineRun) (kept : Kept) (s : Status) (text : Text) → HasLines goal.Run lines run → run.kept ≡ Some kept → IsEndAnswer goal.Run lines s text → s ≡ status.Done →
    length lines ≤ MOST_LINES → length kept.lines ≤ MOST_LINES
few_kept lines run kept s text has is answer done few = subst (λ (ls : Lines). length ls ≤ MOST_LINES) (sym (kept_lines lines run kept s text has is answer done)) few

pub ascii_text : (lines : Lines) (s : Status) (text : Text) → IsEndAnswer goal.Run lines s text → IsAscii text
ascii_text lines s text answer = end_text-ascii lines text answer.writes

-- The audit that is made.

pub made : (lines : Lines) (run : LineRun) (kept : Kept) (text file : Text) → HasLines goal.Run lines run → run.kept ≡ Some kept → IsEndAnswer goal.Run lines status.Done text →
    file ≡ audit_bytes 2 kept.lines kept.marks.items text → file ≡ audit_of lines
made lines run kept text file has is answer written =
    written
    ∙ ap (λ (ls : Lines). audit_bytes 2 ls kept.marks.items text) (kept_lines lines run kept status.Done text has is answer refl)
    ∙ ap (λ (ms : List Took). audit_bytes 2 lines ms text) (kept_marks lines run kept status.Done text has is answer refl)
    ∙ ap (audit_bytes 2 lines (marks lines)) (report_text lines status.Done text answer refl)

-- a run that keeps lines has some
pub keeps_some : {A : Type 0} (run : LineRun) → keeps run ≡ true → run.kept ≡ None → A
keeps_some {A} run keeps_lines none = absurd (let wrong : false ≡ true = sym (ap (λ (o : Option Kept). is_some o) none) ∙ keeps_lines in cc)

pub audited : (lines : Lines) (a : Filed) → IsEndAnswer goal.Run lines a.answer.status a.answer.text.items → a.answer.status ≡ status.Done → IsSomeAnd a.file (λ file. file.items ≡ audit_of lines) → IsAuditedRun lines a
audited lines a answer done audit = record { answers = answer; audit = λ done. audit; unless_done = λ undone. absurd (undone done) }

pub unaudited : (lines : Lines) (a : Filed) → IsEndAnswer goal.Run lines a.answer.status a.answer.text.items → (a.answer.status ≡ status.Done → ⊥) → a.file ≡ None → IsAuditedRun lines a
unaudited lines a answer undone none = record { answers = answer; audit = λ done. absurd (undone done); unless_done = λ undone. none }

pub done_answer : (lines : Lines) (s : Status) (text : Text) → s ≡ status.Done → IsEndAnswer goal.Run lines s text → IsEndAnswer goal.Run lines status.Done text
done_answer lines s text done answer = subst (λ s. IsEndAnswer goal.Run lines s text) done answer

-- the status of a fault
pub fault_status : (why : InputFault) → status_of_answer (Err why) ≡ status_of_filed (Err why)
fault_status fault.Failed = refl
fault_status fault.Memory = refl

-- What was heard of an input.

pub can_be_audited : (before after : Option Text) (heard : Heard) → HearsWhereTold goal.Run [] before after heard → CanBeAudited heard
can_be_audited before after (what.Lines run) (lines, has, few, tells) = (lines, has, few)
can_be_audited before after what.TooLong over = tt

pub heard_answer : (heard : Heard) (a : Filed) → IsAuditedHeard heard a → IsHeardAnswer goal.Run heard a.answer.status a.answer.text.items
heard_answer (what.Lines run) a audited = λ lines has. (audited lines has).answers
heard_answer what.TooLong a (is, text, none) = (is, text)

pub stores_audit : (before after : Option Text) (heard : Heard) (a : Filed) → HearsWhereTold goal.Run [] before after heard → IsAuditedHeard heard a → StoresAudit before a
stores_audit before after (what.Lines run) a (lines, has, few, tells) audited = record {
  audit = λ done. of_input before after tells done;
  unless_done = (audited lines has).unless_done;
}
  where
    of_input : (before after : Option Text) → IfSome before (λ input. IsSomeAnd after (λ rest. TellsEnd goal.Run [] input rest lines)) → a.answer.status ≡ status.Done →
        IfSome before (λ input. IsSomeAnd a.file (λ file. file.items ≡ audit_of (heard input)))
    of_input None after tells done = tt
    of_input (Some input) None tells done = absurd tells
    of_input (Some input) (Some rest) tells done =
        let is = audited lines has in
        let call = is.answers.of_call refl done in
        let same : heard input ≡ lines = (tells.all (goes_to_report lines call.done)).2 in
        subst (λ (ls : Lines). IsSomeAnd a.file (λ file. file.items ≡ audit_of ls)) (sym same) (is.audit done)
stores_audit before after what.TooLong a over (is, text, none) = record {
  audit = λ done. absurd (let wrong : status.TooLong ≡ status.Done = sym is ∙ done in cc);
  unless_done = λ undone. none;
}
