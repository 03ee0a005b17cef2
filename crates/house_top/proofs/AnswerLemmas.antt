-- The answer that lines come to, and the answer to an input of which they tell how it ends.
use Rattle.std.proofs.Common.{◌≡◌, ◌≢◌, ℕ, ◌+◌, Bool, true, false, not, cond, ◌&&◌, ◌||◌, [], ◌∷◌, ◌++◌, length, codes, Option, Some, None, refl, sym, ap, ◌∙◌, subst}
use Rattle.std.specs.Prelude.{IfSome, IsSomeAnd, IsTrue, is_some}
use Rattle.std.specs.Option.{option_map_or}
use Rattle.house_base.specs.declared.answer.Reason.TheVariants as reason
use Rattle.house_core.proofs.EndingLemmas.{in_force_all}
use Rattle.house_base.specs.Text.{Text}
use Rattle.house_model.specs.declared.goal.Goal.{Goal}
use Rattle.house_model.specs.declared.goal.Goal.TheVariants as goal
use Rattle.house_model.specs.declared.verb.Verb.TheVariants as verb
use Rattle.house_model.specs.Ending.{Ended, Halt, halted, in_force, is_drawn, last_ended, stop_of}
use Rattle.house_model.specs.EndTexts.{IsTextOfEnd}
use Rattle.house_model.specs.Headline.{AreOfCall}
use Rattle.house_model.specs.Heard.{heard}
use Rattle.house_model.specs.Outcome.{outcome}
use Rattle.house_model.specs.Report.{line_of, report}
use Rattle.house_model.specs.Runs.{end_of, ends_run, halt, last_of, looked_at, settles, taken}
use Rattle.house_model.specs.Said.{has, phase_after}
use Rattle.house_model.specs.Text.{Lines}
use Rattle.house_model.proofs.RunEndLemmas.{settled-parts}
use Rattle.house_top.specs.declared.status.Status.{Status}
use Rattle.house_top.specs.declared.status.Status.TheVariants as status
use Rattle.input_run.proofs.EndLemmas.{taken_by}
use Rattle.input_run.specs.declared.input.Heard.{Heard}
use Rattle.end_text.specs.End.{IsEndOf, ended_as}
use Rattle.end_text.specs.declared.end.RunEnd.{RunEnd}
use Rattle.end_text.specs.declared.end.RunEnd.TheVariants as ended
use Rattle.input_run.specs.declared.input.Heard.TheVariants as what
use Rattle.house_top.specs.Answer.{AnswersRun, IsAnswerOfRun, IsEndAnswer, IsHeardAnswer, IsOfRun}
use Rattle.house_top.specs.Due.{IsRunText, is_for_report, run_behind, status_of_end}
use Rattle.input_run.specs.Hearing.{HearsWhereTold, HasSomeLines, TellsEnd}

-- How a run has ended.

-- a run that reaches its goal with an assignment is for no report
no_report : (g : Goal) (lines : Lines) → end_of g lines ≡ Ended.Settled → g ≡ goal.Run → ⊥
no_report g lines settled run =
    let wrong : false ≡ true = sym (ap (λ g. settles g && has verb.Assign lines) run) ∙ (settled-parts g lines settled).1 in
    absurd (let false_is_true : ⊥ = cc in false_is_true)

-- the answer of a run that has ended so
pub ended_answer : (g : Goal) (lines : Lines) (end : RunEnd) (s : Status) (text : Text) → looked_at g lines ≡ lines → IsEndOf g lines end text → s ≡ status_of_end (Some (ended_as end)) →
    IsEndAnswer g lines s text
ended_answer g lines end s text all told is = record {
  ends = is ∙ ap (λ e. status_of_end (Some e)) told.ends;
  writes = subst (λ ls. IsTextOfEnd (end_of g lines) g ls text) (sym (taken_by g lines all)) told.says;
  of_call = λ run done. by_end end refl run (sym is ∙ done);
}
  where
    by_end : (e : RunEnd) → end ≡ e → g ≡ goal.Run → status_of_end (Some (ended_as end)) ≡ status.Done → AreOfCall lines
    by_end ended.Done same run done = told.of_call same
    by_end ended.Settled same run done = absurd (no_report g lines (sym told.ends ∙ ap ended_as same) run)
    by_end (ended.Refused line reason) same run done =
        absurd (let wrong : status.Refused line reason ≡ status.Done = sym (ap (λ e. status_of_end (Some (ended_as e))) same) ∙ done in cc)
    by_end ended.Short same run done =
        absurd (let wrong : status.Short ≡ status.Done = sym (ap (λ e. status_of_end (Some (ended_as e))) same) ∙ done in cc)

pub done_parts : (stop : Option (ℕ × Halt)) (last : Ended) → option_map_or (λ s. halted s.0 s.1) stop last ≡ Ended.Done → (stop ≡ None) × (last ≡ Ended.Done)
done_parts None last h = (refl, h)
done_parts (Some (n, Halt.Refused r)) last h = absurd (let wrong : ⊥ = cc in wrong)
done_parts (Some (n, Halt.Short)) last h = absurd (let wrong : ⊥ = cc in wrong)

-- lines that end done are all in force
pub all_in_force : (lines : Lines) → end_of goal.Run lines ≡ Ended.Done → in_force (halt goal.Run) lines ≡ lines
unfolding end_of
all_in_force lines done = in_force_all (halt goal.Run) lines (done_parts (stop_of (halt goal.Run) lines) (last_ended lines) done).0

-- The answer to an input.

-- no line ends a run that comes to its report
pub goes_to_report : (lines : Lines) → end_of goal.Run lines ≡ Ended.Done → ends_run goal.Run lines ≡ false
unfolding end_of ends_run
goes_to_report lines done = ap (λ o. is_some o || false) (done_parts (stop_of (halt goal.Run) lines) (last_ended lines) done).0

reported_call : (g : Goal) (opening : Lines) (input rest : Text) (lines : Lines) (s : Status) (text : Text) → TellsEnd g opening input rest lines → IsEndAnswer g lines s text →
    IsTrue (is_for_report g) → s ≡ status.Done → AreOfCall (opening ++ heard input)
reported_call goal.Run opening input rest lines s text tells answer report done =
    let call = answer.of_call refl done in
    subst AreOfCall (sym (tells.all (goes_to_report lines call.done)).2) call
reported_call goal.Pairs opening input rest lines s text tells answer report done = absurd (let wrong : ⊥ = cc in wrong)
reported_call goal.Feasible opening input rest lines s text tells answer report done = absurd (let wrong : ⊥ = cc in wrong)

-- lines that tell how an input ends give the answer to it
answer_to_input : (g : Goal) (opening : Lines) (input rest : Text) (lines : Lines) (s : Status) (text : Text) → TellsEnd g opening input rest lines → IsEndAnswer g lines s text →
    IsAnswerOfRun (run_behind g opening) input s text
answer_to_input g opening input rest lines s text tells answer = record {
  ends = answer.ends ∙ ap status_of_end (sym tells.due);
  writes = subst (λ e. IsRunText e g (taken g (opening ++ heard input)) text) (sym tells.due)
      (subst (λ ls. IsRunText (Some (end_of g lines)) g ls text) (sym tells.same_lines) answer.writes);
  of_call = reported_call g opening input rest lines s text tells answer;
}

-- a run that has an answer ends in one of the ways that runs do
pub of_run : (e : Option Ended) → IsOfRun (status_of_end e)
of_run (Some Ended.Done) = tt
of_run (Some (Ended.Refused line reason)) = tt
of_run (Some Ended.Short) = tt
of_run (Some Ended.Settled) = tt
of_run None = tt

-- where the source tells its bytes
lines_answer : (g : Goal) (opening : Lines) (before after : Option Text) (lines : Lines) (s : Status) (text : Text) → IfSome before (λ input. IsSomeAnd after (λ rest. TellsEnd g opening input rest lines)) →
    IsEndAnswer g lines s text → AnswersRun (run_behind g opening) before s text
lines_answer g opening before after lines s text tells answer = record {
  answered = subst IsOfRun (sym answer.ends) (of_run (Some (end_of g lines)));
  as_run = where_told before after tells;
}
  where
    where_told : (before after : Option Text) → IfSome before (λ input. IsSomeAnd after (λ rest. TellsEnd g opening input rest lines)) →
        IfSome before (λ input. IsAnswerOfRun (run_behind g opening) input s text)
    where_told None after tells = tt
    where_told (Some input) None tells = absurd tells
    where_told (Some input) (Some rest) tells = answer_to_input g opening input rest lines s text tells answer

-- the answer to an input that is too long
too_long_answer : (g : Goal) (opening : Lines) (before : Option Text) (s : Status) (text : Text) → IfSome before (λ input. outcome g opening input ≡ None) → s ≡ status.TooLong →
    text ≡ line_of (codes "too-long" ∷ []) → AnswersRun (run_behind g opening) before s text
too_long_answer g opening before s text over long writes = record { answered = subst IsOfRun (sym long) tt; as_run = where_told before over }
  where
    where_told : (before : Option Text) → IfSome before (λ input. outcome g opening input ≡ None) → IfSome before (λ input. IsAnswerOfRun (run_behind g opening) input s text)
    where_told None over = tt
    where_told (Some input) over = record {
      ends = long ∙ ap status_of_end (sym over);
      writes = subst (λ e. IsRunText e g (taken g (opening ++ heard input)) text) (sym over) writes;
      of_call = λ report done. absurd (let wrong : status.TooLong ≡ status.Done = sym long ∙ done in cc);
    }

never_short : (called drawn : Bool) (n : ℕ) → cond (not called) (Ended.Refused n reason.NoCall) (cond (not drawn) (Ended.Refused n reason.Unfinished) Ended.Done) ≢ Ended.Short
never_short false drawn n h = cc
never_short true false n h = cc
never_short true true n h = cc

last_short : (lines : Lines) → last_ended lines ≢ Ended.Short
unfolding last_ended
last_short lines = never_short (has verb.Call lines) (is_drawn (phase_after lines)) (length lines + 1)

last_of_short : (b : Bool) (lines : Lines) → cond b Ended.Settled (last_ended lines) ≢ Ended.Short
last_of_short true lines h = cc
last_of_short false lines h = last_short lines h

short_stop : (found : Option (ℕ × Halt)) (last : Ended) → last ≢ Ended.Short → option_map_or (λ s. halted s.0 s.1) found last ≡ Ended.Short → (n : ℕ) × (found ≡ Some (n, Halt.Short))
short_stop None last other h = absurd (other h)
short_stop (Some (n, Halt.Refused r)) last other h = absurd (let wrong : ⊥ = cc in wrong)
short_stop (Some (n, Halt.Short)) last other h = (n, refl)

-- lines that end short have a line that ends the run
pub ends_short_of : (g : Goal) (lines : Lines) → end_of g lines ≡ Ended.Short → ends_run g lines ≡ true
unfolding end_of ends_run
ends_short_of g lines h =
    let stop = short_stop (stop_of (halt g) (looked_at g lines)) (last_of g lines) (last_of_short (settles g && has verb.Assign lines) lines) h in
    ap (λ o. is_some o || (settles g && has verb.Assign lines)) stop.1

-- all lines of a run that comes to its report are taken
pub taken_done : (lines : Lines) → end_of goal.Run lines ≡ Ended.Done → taken goal.Run lines ≡ lines
taken_done lines done = taken_by goal.Run lines refl ∙ all_in_force lines done

-- what was heard of an input gives the answer to it
pub input_answer : (g : Goal) (opening : Lines) (before after : Option Text) (heard : Heard) (s : Status) (text : Text) → HearsWhereTold g opening before after heard → IsHeardAnswer g heard s text →
    AnswersRun (run_behind g opening) before s text
input_answer g opening before after (what.Lines run) s text (lines, has, few, tells) answer = lines_answer g opening before after lines s text tells (answer lines has)
input_answer g opening before after what.TooLong s text over answer = too_long_answer g opening before s text over answer.0 answer.1

pub some_lines : (g : Goal) (opening : Lines) (before after : Option Text) (heard : Heard) → HearsWhereTold g opening before after heard → HasSomeLines g heard
some_lines g opening before after (what.Lines run) (lines, has, few, tells) = (lines, has)
some_lines g opening before after what.TooLong over = tt
