-- How far an input is read.
use Rattle.std.proofs.Common.{◌≡◌, ◌-◌, true, false, not, cond, [], ◌++◌, Option, Some, None, Result, Ok, Err, length, take, refl, sym, ap, ◌∙◌, subst, arith, append-nil}
use Rattle.std.specs.Prelude.{IfOk, IfSome, IsSomeAnd, IsTrue}
use Rattle.command_text.proofs.FeedLemmas.{lines_of_none, whole_lines_of_part}
use Rattle.std.proofs.lemmas.List.Elements.{All-nil}
use Rattle.input_run.proofs.LineLemmas.{is_feed}
use Rattle.house_base.specs.Text.{Text}
use Rattle.input_run.specs.declared.line_run.LineRun.{LineRun}
use Rattle.input_run.specs.Kept.{HasTaken}
use Rattle.house_model.specs.declared.goal.Goal.{Goal}
use Rattle.house_model.specs.declared.goal.Goal.TheVariants as goal
use Rattle.house_model.specs.Heard.{is_over, whole_lines}
use Rattle.house_model.specs.Runs.{end_of, ends_run, looked_at, taken}
use Rattle.house_model.specs.Text.{Lines}
use Rattle.house_top.specs.declared.answer.Answer.{Answer}
use Rattle.house_top.specs.declared.status.Status.{Status}
use Rattle.house_top.specs.declared.status.Status.TheVariants as status
use Rattle.house_top.specs.Answer.{AnswersRun, IsAnswerOfRun, IsEndAnswer, IsHeardAnswer, IsOfRun, ReadsOpened, ReadsRun, status_of_answer}
use Rattle.house_top.specs.Due.{IsRunText, is_for_report, opened_run, run_behind, status_of_end}
use Rattle.house_top.specs.Given.{input_behind}
use Rattle.house_top.proofs.AnswerLemmas.{goes_to_report, of_run}
use Rattle.input_run.specs.declared.input.Heard.{Heard}
use Rattle.input_run.specs.declared.input.Heard.TheVariants as what
use Rattle.input_run.specs.declared.fault.InputFault.{InputFault}
use Rattle.input_run.specs.declared.fault.InputFault.TheVariants as faults
use Rattle.input_run.specs.declared.opening.Opening.{Opening}
use Rattle.input_run.specs.declared.opening.Opening.TheVariants as openings
use Rattle.input_run.specs.Hearing.{HasOpened, HasTakenOpening, HearsWhereTold, TellsEnd}
use Rattle.input_run.specs.Input.{DecidedWhereTold, EndsWhereTold, NoFurtherWhereTold, UndecidedWhereTold, taken_before}
use Rattle.input_run.proofs.EndLemmas.{EndAlike, ends_alike}
use Rattle.input_run.proofs.FrontLemmas.{within-from}
use Rattle.input_run.proofs.HearLemmas.{go_on-none}

-- a run that has taken no line goes on
pub opened-none : (g : Goal) (run : LineRun) → HasTaken g [] run → HasOpened g [] run
opened-none g run taken = record { taken = taken; go_on = go_on-none g; few = omega arith }

-- a run that comes to its report has read all of the input
all_read : (g : Goal) (opening : Lines) (before after : Option Text) (lines : Lines) (s : Status) (text : Text) → IfSome before (λ input. IsSomeAnd after (λ rest. TellsEnd g opening input rest lines)) →
    IsEndAnswer g lines s text → IsTrue (is_for_report g) → s ≡ status.Done → EndsWhereTold before after
all_read goal.Pairs opening before after lines s text tells answer report done = absurd (let wrong : ⊥ = cc in wrong)
all_read goal.Feasible opening before after lines s text tells answer report done = absurd (let wrong : ⊥ = cc in wrong)
all_read goal.Run opening None after lines s text tells answer report done = tt
all_read goal.Run opening (Some input) None lines s text tells answer report done = absurd tells
all_read goal.Run opening (Some input) (Some rest) lines s text tells answer report done = (tells.all (goes_to_report lines (answer.of_call refl done).done)).0

-- behind a report nothing of what was heard is left
read_to_end : (g : Goal) (opening : Lines) (before after : Option Text) (heard : Heard) (s : Status) (text : Text) → HearsWhereTold g opening before after heard → IsHeardAnswer g heard s text →
    IsTrue (is_for_report g) → s ≡ status.Done → EndsWhereTold before after
read_to_end g opening before after (what.Lines run) s text (lines, has, few, tells) answer report done = all_read g opening before after lines s text tells (answer lines has) report done
read_to_end g opening before after what.TooLong s text over answer report done = absurd (let wrong : status.TooLong ≡ status.Done = sym answer.0 ∙ done in cc)

-- how far is read where there is an answer
pub reads_answer : {I : Type 0} (left : I → Option Text) (g : Goal) (opening : Lines) (heard : Heard) (s : Status) (text : Text) (old new : I) → IsOfRun s →
    HearsWhereTold g opening (left old) (left new) heard → IsHeardAnswer g heard s text → DecidedWhereTold g opening (left old) (left new) → NoFurtherWhereTold g opening (left old) (left new) →
    ReadsRun left g opening s old new
reads_answer {I} left g opening heard s text old new answered hears answer decided no_further = record {
  far_enough = λ read kept. decided;
  undecided = λ is. absurd (subst IsOfRun is answered);
  no_further = no_further;
  to_end = read_to_end g opening (left old) (left new) heard s text hears answer;
}

-- how far is read where there is none
pub reads_fault : {I : Type 0} (left : I → Option Text) (g : Goal) (opening : Lines) (fault : InputFault) (old new : I) → (fault ≡ faults.Failed → UndecidedWhereTold g opening (left old) (left new)) →
    NoFurtherWhereTold g opening (left old) (left new) → ReadsRun left g opening (status_of_answer (Err fault)) old new
reads_fault {I} left g opening faults.Failed old new undecided no_further = record {
  far_enough = λ read kept. absurd (read refl);
  undecided = λ is. undecided refl;
  no_further = no_further;
  to_end = λ report done. absurd (let wrong : ⊥ = cc in wrong);
}
reads_fault {I} left g opening faults.Memory old new undecided no_further = record {
  far_enough = λ read kept. absurd (kept refl);
  undecided = λ is. absurd (let wrong : ⊥ = cc in wrong);
  no_further = no_further;
  to_end = λ report done. absurd (let wrong : ⊥ = cc in wrong);
}

-- An input of which nothing is taken.

-- nothing of it decides how a run ends that goes on
pub nothing_further : (g : Goal) (opening : Lines) (left : Option Text) → ends_run g opening ≡ false → NoFurtherWhereTold g opening left left
nothing_further g opening None goes = tt
nothing_further g opening (Some rest) goes = ([], [], none_taken rest, record { within = none_over; goes_on = ap (ends_run g) (none_behind opening) ∙ goes }, omega arith)
  where
    none_taken : (rest : Text) → taken_before rest rest ≡ []
    none_taken rest = ap (λ n. take n rest) (let same : length rest - length rest ≡ 0 = omega arith in same)

    none_behind : (opening : Lines) → opening ++ whole_lines [] ≡ opening
    none_behind opening = ap (λ ls. opening ++ ls) (whole_lines_of_part [] (All-nil (λ byte. is_feed byte ≡ false))) ∙ append-nil opening

    none_over : is_over [] ≡ false
    none_over = within-from [] (omega arith) (omega (arith, ap length (lines_of_none [] refl)))

-- Where an opening line ends the run.

-- the answer of the lines up to it is that of the run of all
pub ended_answers : (lines front behind : Lines) (input : Option Text) (s : Status) (text : Text) → lines ≡ front ++ behind → looked_at goal.Run front ≡ front → ends_run goal.Run front ≡ true →
    IsEndAnswer goal.Run front s text → AnswersRun (opened_run lines) (input_behind lines input) s text
ended_answers lines front behind input s text parts looked ends answer =
    let alike = subst (λ ls. EndAlike goal.Run front ls) (sym parts) (ends_alike goal.Run front behind looked ends) in
    let all_end : ends_run goal.Run lines ≡ true = alike.ends in
    record {
      answered = subst IsOfRun (sym answer.ends) (of_run (Some (end_of goal.Run front)));
      as_run = subst (λ b. IfSome (cond b (Some []) input) (λ bytes. IsAnswerOfRun (record { goal = goal.Run; opening = lines; hears = not b; reports = true }) bytes s text)) (sym all_end) (record {
        ends = answer.ends ∙ ap (λ e. status_of_end (Some e)) (sym alike.same_end);
        writes = subst (λ e. IsRunText (Some e) goal.Run (taken goal.Run lines) text) (sym alike.same_end)
            (subst (λ ls. IsRunText (Some (end_of goal.Run front)) goal.Run ls text) (sym alike.same_lines) answer.writes);
        of_call = λ report done. absurd (never_done front s text ends answer done);
      });
    }
  where
    never_done : (front : Lines) (s : Status) (text : Text) → ends_run goal.Run front ≡ true → IsEndAnswer goal.Run front s text → s ≡ status.Done → ⊥
    never_done front s text ends answer done = let wrong : true ≡ false = sym ends ∙ goes_to_report front (answer.of_call refl done).done in cc

-- nothing of the input is read
pub ended_reads : {I : Type 0} (left : I → Option Text) (lines front behind : Lines) (s : Status) (text : Text) (old : I) → lines ≡ front ++ behind → looked_at goal.Run front ≡ front →
    ends_run goal.Run front ≡ true → IsEndAnswer goal.Run front s text → ReadsOpened left lines s old old
ended_reads {I} left lines front behind s text old parts looked ends answer =
    let alike = subst (λ ls. EndAlike goal.Run front ls) (sym parts) (ends_alike goal.Run front behind looked ends) in
    record {
      going = λ goes. absurd (let wrong : true ≡ false = sym alike.ends ∙ goes in cc);
      ended = λ all_end. (
        refl,
        λ is. subst IsOfRun is (subst IsOfRun (sym answer.ends) (of_run (Some (end_of goal.Run front)))),
        λ done.
            (let wrong : true ≡ false = sym ends ∙ goes_to_report front (answer.of_call refl done).done in cc),
      );
    }

-- The run behind opening lines of which none ends it.

pub going_answers : (lines : Lines) (input : Option Text) (s : Status) (text : Text) → ends_run goal.Run lines ≡ false → AnswersRun (run_behind goal.Run lines) input s text →
    AnswersRun (opened_run lines) (input_behind lines input) s text
going_answers lines input s text goes answers = record {
  answered = answers.answered;
  as_run = subst (λ b. IfSome (cond b (Some []) input) (λ bytes. IsAnswerOfRun (record { goal = goal.Run; opening = lines; hears = not b; reports = true }) bytes s text)) (sym goes) answers.as_run;
}

pub going_reads : {I : Type 0} (left : I → Option Text) (lines : Lines) (s : Status) (old new : I) → ends_run goal.Run lines ≡ false → ReadsRun left goal.Run lines s old new → ReadsOpened left lines s old new
going_reads {I} left lines s old new goes reads = record { going = λ h. reads; ended = λ ends. absurd (let wrong : false ≡ true = sym goes ∙ ends in cc) }

-- where no memory was left for the opening lines
pub memory_reads : {I : Type 0} (left : I → Option Text) (lines : Lines) (old : I) → ReadsOpened left lines status.Memory old old
memory_reads {I} left lines old = record {
  going = λ goes. record {
    far_enough = λ read kept. absurd (kept refl);
    undecided = λ is. absurd (let wrong : ⊥ = cc in wrong);
    no_further = nothing_further goal.Run lines (left old) goes;
    to_end = λ report done. absurd (let wrong : ⊥ = cc in wrong);
  };
  ended = λ ends. (refl, λ is. cc, λ is. cc);
}

pub going_result : (r : Result Answer InputFault) (lines : Lines) (input : Option Text) → ends_run goal.Run lines ≡ false →
    IfOk r (λ answer. AnswersRun (run_behind goal.Run lines) input answer.status answer.text.items) →
    IfOk r (λ answer. AnswersRun (opened_run lines) (input_behind lines input) answer.status answer.text.items)
going_result (Ok answer) lines input goes answers = going_answers lines input answer.status answer.text.items goes answers
going_result (Err fault) lines input goes answers = tt

-- a run that was given its opening lines

pub opened_going : (lines : Lines) (o : Opening) (run : LineRun) → o ≡ openings.Going → HasTakenOpening goal.Run lines o run → HasOpened goal.Run lines run
opened_going lines o run is taken = subst (λ o. HasTakenOpening goal.Run lines o run) is taken

pub opened_ended : (lines : Lines) (o : Opening) (run : LineRun) → o ≡ openings.Ended → HasTakenOpening goal.Run lines o run → HasTakenOpening goal.Run lines openings.Ended run
opened_ended lines o run is taken = subst (λ o. HasTakenOpening goal.Run lines o run) is taken
