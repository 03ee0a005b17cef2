-- The end to which lines come, and its text.
use Rattle.std.proofs.Common.{◌≡◌, ℕ, ◌+◌, Bool, true, false, not, cond, ◌&&◌, ◌||◌, [], ◌∷◌, length, codes, Option, Some, None, Result, Ok, Err, refl, sym, ap, ◌∙◌, subst}
use Rattle.std.specs.Prelude.{IfOk}
use Rattle.std.specs.Option.{option_map_or}
use Rattle.cut_gap.specs.Cut.{Sides, marked}
use Rattle.house_base.specs.declared.answer.Reason.{Reason}
use Rattle.house_base.specs.declared.answer.Reason.TheVariants as reason
use Rattle.house_base.specs.declared.phase.Phase.TheVariants as phase
use Rattle.house_base.specs.Setting.{Setting}
use Rattle.house_base.specs.Text.{Text}
use Rattle.house_model.specs.declared.goal.Goal.{Goal}
use Rattle.house_model.specs.declared.goal.Goal.TheVariants as goal
use Rattle.house_model.specs.declared.verb.Verb.TheVariants as verb
use Rattle.house_model.specs.Ending.{Ended, Halt, halted, in_force, is_drawn, last_ended, stop_of}
use Rattle.house_model.specs.EndTexts.{IsTextOfEnd, done_text}
use Rattle.house_model.specs.Faults.{looks_at_pairs}
use Rattle.house_model.specs.Headline.{AreOfCall}
use Rattle.house_model.specs.Report.{OutcomeParts, line_of, outcome_text, refused_words, report}
use Rattle.house_model.specs.Reviews.{profile}
use Rattle.house_model.specs.Runs.{end_of, halt, looked_at, report_of, settles}
use Rattle.house_model.specs.Said.{has, phase_after, run_pairs, setting}
use Rattle.house_model.specs.Text.{Lines}
use Rattle.house_model.specs.Texts.{pairs_text, short_text}
use Rattle.house_model.proofs.RunEndLemmas.{settled-parts}
use Rattle.house_core.specs.declared.step.Ending.{Ending}
use Rattle.house_core.specs.declared.step.Ending.TheVariants as ending
use Rattle.house_core.specs.Ends.{IsEnding, IsOutcome, ShowsShort}
use Rattle.house_core.proofs.EndingLemmas.{in_force_all}
use Rattle.end_text.specs.declared.end.RunEnd.{RunEnd}
use Rattle.end_text.specs.declared.end.RunEnd.TheVariants as run
use Rattle.end_text.specs.End.{IsEndOf, ended_as}

-- two facts of one result
pub both : {A E : Type 0} {P Q R : A → Type 0} (r : Result A E) → IfOk r P → IfOk r Q → ((x : A) → P x → Q x → R x) → IfOk r R
both (Ok x) p q h = h x p q
both (Err e) p q h = tt

-- the end that an ending tells; want of memory tells none
abbrev pub end_told : Ending → Option Ended
end_told (ending.Settled plan desk) = Some Ended.Settled
end_told (ending.Done outcome) = Some Ended.Done
end_told (ending.Refused line reason) = Some (Ended.Refused line reason)
end_told (ending.Short plan cut) = Some Ended.Short
end_told ending.Memory = None

-- what a house tells of its end is how its lines end
pub told_end : (end told : Ended) (g : Goal) (lines : Lines) (answer : Ending) → IsEnding end g lines answer → end_told answer ≡ Some told → end ≡ told
told_end Ended.Settled told g lines (ending.Settled plan desk) h tells = cc
told_end Ended.Settled told g lines (ending.Done o) h tells = absurd h
told_end Ended.Settled told g lines (ending.Refused n r) h tells = absurd h
told_end Ended.Settled told g lines (ending.Short plan cut) h tells = absurd h
told_end Ended.Settled told g lines ending.Memory h tells = absurd h
told_end Ended.Done told g lines (ending.Settled plan desk) h tells = absurd h
told_end Ended.Done told g lines (ending.Done o) h tells = cc
told_end Ended.Done told g lines (ending.Refused n r) h tells = absurd h
told_end Ended.Done told g lines (ending.Short plan cut) h tells = absurd h
told_end Ended.Done told g lines ending.Memory h tells = absurd (let wrong : ⊥ = cc in wrong)
told_end (Ended.Refused m q) told g lines (ending.Settled plan desk) h tells = absurd h
told_end (Ended.Refused m q) told g lines (ending.Done o) h tells = absurd h
told_end (Ended.Refused m q) told g lines (ending.Refused n r) h tells =
    let line : m ≡ n = sym h.0 in
    let reason : q ≡ r = sym h.1 in
    let same : Ended.Refused n r ≡ told = cc in
    ap (λ n. Ended.Refused n q) line ∙ (ap (Ended.Refused n) reason ∙ same)
told_end (Ended.Refused m q) told g lines (ending.Short plan cut) h tells = absurd h
told_end (Ended.Refused m q) told g lines ending.Memory h tells = absurd h
told_end Ended.Short told g lines (ending.Settled plan desk) h tells = absurd h
told_end Ended.Short told g lines (ending.Done o) h tells = absurd h
told_end Ended.Short told g lines (ending.Refused n r) h tells = absurd h
told_end Ended.Short told g lines (ending.Short plan cut) h tells = cc
told_end Ended.Short told g lines ending.Memory h tells = absurd h

-- a run that reaches its goal with an assignment is for no report
no_report : (g : Goal) (lines : Lines) → end_of g lines ≡ Ended.Settled → g ≡ goal.Run → ⊥
no_report g lines settled run =
    let wrong : false ≡ true = sym (ap (λ g. settles g && has verb.Assign lines) run) ∙ (settled-parts g lines settled).1 in
    absurd (let false_is_true : ⊥ = cc in false_is_true)

-- the text of an assignment that was asked for
settled_text : (g : Goal) (lines said : Lines) (text : Text) → end_of g lines ≡ Ended.Settled → looks_at_pairs g ≡ true → text ≡ pairs_text (setting said) (run_pairs said) → text ≡ done_text g said
settled_text goal.Run lines said text settled looks writes = absurd (no_report goal.Run lines settled refl)
settled_text goal.Pairs lines said text settled looks writes = writes
settled_text goal.Feasible lines said text settled looks writes = absurd (let wrong : ⊥ = cc in wrong)

-- the text where no more was asked than whether there is an assignment
feasible_text : (g : Goal) (said : Lines) (text : Text) → looks_at_pairs g ≡ false → text ≡ line_of (codes "feasible" ∷ []) → text ≡ done_text g said
feasible_text goal.Run said text looks writes = absurd (let wrong : ⊥ = cc in wrong)
feasible_text goal.Pairs said text looks writes = absurd (let wrong : ⊥ = cc in wrong)
feasible_text goal.Feasible said text looks writes = writes

-- an end that is no report
plain_end : (g : Goal) (lines : Lines) (end : Ended) (e : RunEnd) (text : Text) → end_of g lines ≡ end → ended_as e ≡ end → IsTextOfEnd end g (in_force (halt g) lines) text →
    (e ≡ run.Done → AreOfCall lines) → IsEndOf g lines e text
plain_end g lines end e text is ends says of_call = record {
  ends = ends ∙ sym is;
  says = subst (λ e. IsTextOfEnd e g (in_force (halt g) lines) text) (sym is) says;
  of_call = of_call;
}

pub assigned_end : (g : Goal) (lines : Lines) (e : RunEnd) (text : Text) (plan : Setting) → end_of g lines ≡ Ended.Settled → plan ≡ setting (in_force (halt g) lines) →
    looks_at_pairs g ≡ true → e ≡ run.Settled → text ≡ pairs_text plan (run_pairs (in_force (halt g) lines)) → IsEndOf g lines e text
assigned_end g lines e text plan settled is looks ends writes =
    let said = in_force (halt g) lines in
    plain_end g lines Ended.Settled e text settled (ap ended_as ends) (settled_text g lines said text settled looks (writes ∙ ap (λ (s : Setting). pairs_text s (run_pairs said)) is))
    (λ done. absurd (let wrong : run.Settled ≡ run.Done = sym ends ∙ done in cc))

pub feasible_end : (g : Goal) (lines : Lines) (e : RunEnd) (text : Text) → end_of g lines ≡ Ended.Settled → looks_at_pairs g ≡ false → e ≡ run.Settled →
    text ≡ line_of (codes "feasible" ∷ []) → IsEndOf g lines e text
feasible_end g lines e text settled looks ends writes =
    plain_end g lines Ended.Settled e text settled (ap ended_as ends) (feasible_text g (in_force (halt g) lines) text looks writes)
    (λ done. absurd (let wrong : run.Settled ≡ run.Done = sym ends ∙ done in cc))

pub refused_end : (g : Goal) (lines : Lines) (e : RunEnd) (text : Text) (line : ℕ) (reason : Reason) → end_of g lines ≡ Ended.Refused line reason → e ≡ run.Refused line reason →
    text ≡ line_of (refused_words line reason) → IsEndOf g lines e text
refused_end g lines e text line reason is ends writes =
    plain_end g lines (Ended.Refused line reason) e text is (ap ended_as ends) writes (λ done. absurd (let wrong : run.Refused line reason ≡ run.Done = sym ends ∙ done in cc))

pub short_end : (g : Goal) (lines : Lines) (e : RunEnd) (text : Text) (plan : Setting) (cut : Sides) → end_of g lines ≡ Ended.Short → plan ≡ setting (in_force (halt g) lines) →
    ShowsShort (setting (in_force (halt g) lines)) cut → e ≡ run.Short → text ≡ short_text plan (marked cut.reviewers) (marked cut.proposals) → IsEndOf g lines e text
short_end g lines e text plan cut is plan_is shows ends writes =
    plain_end g lines Ended.Short e text is (ap ended_as ends)
    (marked cut.reviewers, marked cut.proposals, shows.printed, writes ∙ ap (λ (s : Setting). short_text s (marked cut.reviewers) (marked cut.proposals)) plan_is)
    (λ done. absurd (let wrong : run.Short ≡ run.Done = sym ends ∙ done in cc))

-- the cut that shows a shortage, at the setting that a house gives
pub shown_at : (s plan : Setting) (cut : Sides) → plan ≡ s → ShowsShort s cut → ShowsShort plan cut
shown_at s plan cut is shows = subst (λ (s : Setting). ShowsShort s cut) (sym is) shows

-- A run whose goal an assignment reaches comes to no draw: it would have an assignment.

drawn_by : (called drawn : Bool) (n : ℕ) → cond (not called) (Ended.Refused n reason.NoCall) (cond (not drawn) (Ended.Refused n reason.Unfinished) Ended.Done) ≡ Ended.Done → drawn ≡ true
drawn_by true true n h = refl
drawn_by true false n h = absurd (let wrong : ⊥ = cc in wrong)
drawn_by false drawn n h = absurd (let wrong : ⊥ = cc in wrong)

assigned_by : (assigned closed drawn : Bool) → is_drawn (cond (not assigned) phase.Opening (cond (not closed) phase.Reviewing (cond (not drawn) phase.Closed phase.Drawn))) ≡ true → assigned ≡ true
assigned_by true closed drawn h = refl
assigned_by false closed drawn h = absurd (let wrong : false ≡ true = h in cc)

-- lines that end done have an assignment
done_assigned : (lines : Lines) → last_ended lines ≡ Ended.Done → has verb.Assign lines ≡ true
unfolding last_ended phase_after
done_assigned lines h =
    assigned_by (has verb.Assign lines) (has verb.Close lines) (has verb.Draw lines || has verb.Lottery lines) (drawn_by (has verb.Call lines) (is_drawn (phase_after lines)) (length lines + 1) h)

last_done : (assigned : Bool) (stop : Option (ℕ × Halt)) (last : Ended) → (last ≡ Ended.Done → assigned ≡ true) → option_map_or (λ s. halted s.0 s.1) stop (cond assigned Ended.Settled last) ≡ Ended.Done → ⊥
last_done assigned (Some (n, Halt.Refused r)) last assigns h = cc
last_done assigned (Some (n, Halt.Short)) last assigns h = cc
last_done true None last assigns h = cc
last_done false None last assigns h = let wrong : false ≡ true = assigns h in cc

pub never_drawn : (g : Goal) (lines : Lines) → settles g ≡ true → end_of g lines ≡ Ended.Done → ⊥
unfolding end_of
never_drawn g lines reaches done =
    last_done (has verb.Assign lines) (stop_of (halt g) (looked_at g lines)) (last_ended lines) (done_assigned lines)
    (sym (ap (λ b. option_map_or (λ s. halted s.0 s.1) (stop_of (halt g) (looked_at g lines)) (cond (b && has verb.Assign lines) Ended.Settled (last_ended lines))) reaches) ∙ done)

-- The report.

done_parts : (stop : Option (ℕ × Halt)) (last : Ended) → option_map_or (λ s. halted s.0 s.1) stop last ≡ Ended.Done → (stop ≡ None) × (last ≡ Ended.Done)
done_parts None last h = (refl, h)
done_parts (Some (n, Halt.Refused r)) last h = absurd (let wrong : ⊥ = cc in wrong)
done_parts (Some (n, Halt.Short)) last h = absurd (let wrong : ⊥ = cc in wrong)

-- a run that comes to its draw is for the report
only_report : (g : Goal) (lines : Lines) → end_of g lines ≡ Ended.Done → g ≡ goal.Run
only_report goal.Run lines done = refl
only_report goal.Pairs lines done = absurd (never_drawn goal.Pairs lines refl done)
only_report goal.Feasible lines done = absurd (never_drawn goal.Feasible lines refl done)

-- lines that end done are all in force
pub all_in_force : (lines : Lines) → end_of goal.Run lines ≡ Ended.Done → in_force (halt goal.Run) lines ≡ lines
unfolding end_of
all_in_force lines done = in_force_all (halt goal.Run) lines (done_parts (stop_of (halt goal.Run) lines) (last_ended lines) done).0

told : (lines : Lines) (o : OutcomeParts) → IsOutcome lines o → outcome_text o ≡ report_of lines
unfolding report_of report
told lines o is = ap outcome_text is.value

of_call : (lines : Lines) (o : OutcomeParts) → end_of goal.Run lines ≡ Ended.Done → IsOutcome lines o → AreOfCall lines
unfolding profile
of_call lines o done is = record { done = done; assigned = is.assigned; drawn = is.drawn }

pub reported_end : (g : Goal) (lines : Lines) (e : RunEnd) (text : Text) (o : OutcomeParts) → end_of g lines ≡ Ended.Done → IsOutcome (in_force (halt g) lines) o → e ≡ run.Done →
    text ≡ outcome_text o → IsEndOf g lines e text
reported_end g lines e text o is outcome ends writes = by_goal g (only_report g lines is) is outcome
  where
    by_goal : (g : Goal) → g ≡ goal.Run → end_of g lines ≡ Ended.Done → IsOutcome (in_force (halt g) lines) o → IsEndOf g lines e text
    by_goal goal.Run for_report is outcome =
        let here : IsOutcome lines o = subst (λ ls. IsOutcome ls o) (all_in_force lines is) outcome in
        plain_end goal.Run lines Ended.Done e text is (ap ended_as ends) (writes ∙ (told lines o here ∙ ap report_of (sym (all_in_force lines is)))) (λ done. of_call lines o is here)
    by_goal goal.Pairs for_report is outcome = absurd (let wrong : ⊥ = cc in wrong)
    by_goal goal.Feasible for_report is outcome = absurd (let wrong : ⊥ = cc in wrong)
