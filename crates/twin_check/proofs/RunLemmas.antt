-- Lines that are run one by one, and what they come to.
use Rattle.std.proofs.Common.{◌≡◌, ℕ, ◌-◌, ◌^◌, ◌<◌, ◌≤◌, Bool, true, false, not, cond, List, [], ◌∷◌, ◌++◌, length, Option, Some, None, refl, sym, ap, ◌∙◌, subst, arith, append_assoc, append-nil, length-append}
use Rattle.std.specs.Option.{option_map_or}
use Rattle.std.proofs.lemmas.Bool.Decides.{nat_tests}
use Rattle.house_base.specs.Setting.{IsSetting}
use Rattle.house_base.specs.Text.{Text, among}
use Rattle.house_base.specs.declared.answer.Reason.{Reason}
use Rattle.house_base.specs.declared.answer.Took.{Took}
use Rattle.house_base.specs.declared.limits.TheConstants.{MOST_OWN}
use Rattle.peer_selection.specs.Laws.{IsAssigned}
use Rattle.peer_selection.specs.Profile.{denominator}
use Rattle.house_model.specs.declared.goal.Goal.TheVariants as goal
use Rattle.house_model.specs.declared.limits.TheConstants.{MOST_LINES}
use Rattle.house_model.specs.Ending.{Ended, Halt, ended, halted, stop_of}
use Rattle.house_model.specs.Headline.{AreOfCall}
use Rattle.house_model.specs.Heard.{is_over}
use Rattle.house_model.specs.Register.{persons}
use Rattle.house_model.specs.Report.{OutcomeParts, applicant_rows_of, outcome_of}
use Rattle.house_model.specs.Reviews.{profile, took_of}
use Rattle.house_model.specs.Runs.{end_of, halt, last_of}
use Rattle.house_model.specs.Said.{draw_of, register, setting}
use Rattle.house_model.specs.Text.{Lines, is_empty, lines}
use Rattle.house_core.specs.Ends.{EndsAs, IsOutcome}
use Rattle.house_core.specs.House.{IsStep, Standing, StandsFor}
use Rattle.house_core.specs.declared.step.EndFault.TheVariants as fault
use Rattle.house_core.specs.declared.step.Step.{Step}
use Rattle.house_core.specs.declared.step.Step.TheVariants as step
use Rattle.house_core.proofs.EndingLemmas.{stop_stays}
use Rattle.std.specs.Prelude.{Ok, Err}
use Rattle.twin_check.specs.declared.half.Half.{Half}
use Rattle.twin_check.specs.declared.half.Half.TheVariants as half
use Rattle.twin_check.specs.Half.{chances_of, done_half, half_at, half_of, own_chances}
use Rattle.twin_check.specs.Rows.{chances_in, half_in}
use Rattle.twin_check.specs.Run.{AreOfCallWhereDone, HasRun}
use Rattle.twin_check.proofs.OwnLemmas.{chances_of_rows, few_chances, listed}

-- Some first lines were taken, and none of them ends the run; the rest are these.
pub record HasTaken (lines rest : Lines) (house : Standing) : Type 0 where
  pub front : Lines
  pub parts : front ++ rest ≡ lines
  pub stands : StandsFor goal.Run front house
  pub free : stop_of (halt goal.Run) front ≡ None

pub none_taken : (lines : Lines) (house : Standing) → StandsFor goal.Run [] house → HasTaken lines lines house
unfolding stop_of
none_taken lines house new = record { front = []; parts = refl; stands = new; free = refl }

-- what the answer to a line says of the lines with it
going : (stop : Option (ℕ × Halt)) (mark answer : Took) → IsStep stop mark (step.Going answer) → stop ≡ None
going None mark answer h = refl
going (Some at) mark answer h = absurd h

-- an answer that says that the line has ended the run
abbrev pub IsHalt : Step → Type 0
IsHalt (step.Going mark) = ⊥
IsHalt step.Memory = ⊥
IsHalt answer = Unit {0}

pub halted_by : (stop : Option (ℕ × Halt)) (mark : Took) (answer : Step) → IsStep stop mark answer → IsHalt answer → (at : ℕ × Halt) × (stop ≡ Some at)
halted_by None mark (step.Going answer) h halt = absurd halt
halted_by None mark (step.Refused line reason) h halt = absurd h
halted_by None mark step.Short h halt = absurd h
halted_by None mark step.Memory h halt = absurd halt
halted_by (Some at) mark answer h halt = (at, refl)

pub few_taken : (lines rest : Lines) (house : Standing) (so_far : HasTaken lines rest house) → length lines ≤ MOST_LINES → length so_far.front < 2 ^ 64 - 1
few_taken lines rest house so_far bound = omega (arith, ap length so_far.parts, length-append so_far.front rest, bound)

with_one : (front rest lines : Lines) (x : Text) → front ++ x ∷ rest ≡ lines → (front ++ x ∷ []) ++ rest ≡ lines
with_one front rest lines x parts = append_assoc front (x ∷ []) rest ∙ parts

-- a line was taken, and does not end the run
pub line_taken : (lines before rest : Lines) (x : Text) (house after : Standing) (answer : Took) (so_far : HasTaken lines before house) → before ≡ x ∷ rest →
    IsStep (stop_of (halt goal.Run) (so_far.front ++ x ∷ [])) (took_of goal.Run so_far.front x) (step.Going answer) →
    StandsFor goal.Run (so_far.front ++ x ∷ []) after → HasTaken lines rest after
line_taken lines before rest x house after answer so_far cut is stands = record {
  front = so_far.front ++ x ∷ [];
  parts = with_one so_far.front rest lines x (ap (λ ls. so_far.front ++ ls) (sym cut) ∙ so_far.parts);
  stands = stands;
  free = going (stop_of (halt goal.Run) (so_far.front ++ x ∷ [])) (took_of goal.Run so_far.front x) answer is;
}

-- Behind a line that ends the run nothing changes.

stop_front : (front more : Lines) (t : ℕ × Halt) → stop_of (halt goal.Run) front ≡ Some t → stop_of (halt goal.Run) (front ++ more) ≡ Some t
stop_front front [] t h = ap (stop_of (halt goal.Run)) (append-nil front) ∙ h
stop_front front (y ∷ more) t h =
    ap (stop_of (halt goal.Run)) (sym (append_assoc front (y ∷ []) more)) ∙ stop_front (front ++ y ∷ []) more t (stop_stays (halt goal.Run) front y t h)

abbrev ended_by : Option (ℕ × Halt) → Ended → Ended
ended_by stop last = option_map_or (λ s. halted s.0 s.1) stop last

end_at : (lines : Lines) (t : ℕ × Halt) → stop_of (halt goal.Run) lines ≡ Some t → end_of goal.Run lines ≡ halted t.0 t.1
unfolding end_of
end_at lines t h = ap (λ o. ended_by o (last_of goal.Run lines)) h

not_done : (n : ℕ) (why : Halt) → halted n why ≡ Ended.Done → ⊥
not_done n (Halt.Refused reason) h = cc
not_done n Halt.Short h = cc

ran_to : (front rest lines : Lines) (house : Standing) (t : ℕ × Halt) → front ++ rest ≡ lines → stop_of (halt goal.Run) front ≡ Some t → length front < 2 ^ 64 - 1 →
    StandsFor goal.Run front house → HasRun lines house
ran_to front rest lines house t parts stop few stands = record {
  front = front;
  stands = stands;
  few = few;
  same_end = end_at front t stop ∙ sym (end_at lines t (ap (stop_of (halt goal.Run)) (sym parts) ∙ stop_front front rest t stop));
  whole = λ done. absurd (not_done t.0 t.1 (sym (end_at front t stop) ∙ done));
}

-- a line has ended the run
pub line_ended : (lines before rest : Lines) (x : Text) (house after : Standing) (so_far : HasTaken lines before house) (t : ℕ × Halt) → before ≡ x ∷ rest →
    length lines ≤ MOST_LINES → stop_of (halt goal.Run) (so_far.front ++ x ∷ []) ≡ Some t → StandsFor goal.Run (so_far.front ++ x ∷ []) after → HasRun lines after
line_ended lines before rest x house after so_far t cut bound stop stands =
    let parts = with_one so_far.front rest lines x (ap (λ ls. so_far.front ++ ls) (sym cut) ∙ so_far.parts) in
    ran_to (so_far.front ++ x ∷ []) rest lines after t parts stop
    (omega (arith, ap length parts, length-append (so_far.front ++ x ∷ []) rest, bound)) stands

-- no line has
pub all_taken : (lines rest : Lines) (house : Standing) (so_far : HasTaken lines rest house) → rest ≡ [] → length lines ≤ MOST_LINES → HasRun lines house
all_taken lines rest house so_far none bound =
    let all : so_far.front ≡ lines = sym (append-nil so_far.front) ∙ ap (λ ls. so_far.front ++ ls) (sym none) ∙ so_far.parts in
    record {
      front = so_far.front;
      stands = so_far.stands;
      few = few_taken lines rest house so_far bound;
      same_end = ap (end_of goal.Run) all;
      whole = λ done. all;
    }

-- What lines come to.

end_is : (lines : Lines) → ended (halt goal.Run) lines ≡ end_of goal.Run lines
unfolding ended end_of
end_is lines = refl

forms : (lines : Lines) → IsAssigned (profile lines) → IsSetting (setting lines)
unfolding profile
forms lines is = is.setting

rows_are : (lines : Lines) (o : OutcomeParts) → IsOutcome lines o → o.applicant_rows ≡ applicant_rows_of (profile lines) (draw_of lines)
unfolding outcome_of
rows_are lines o is = ap (λ (p : OutcomeParts). p.applicant_rows) is.value

den_is : (lines : Lines) (o : OutcomeParts) → IsOutcome lines o → o.den ≡ denominator (setting lines)
unfolding outcome_of profile
den_is lines o is = ap (λ (p : OutcomeParts). p.den) is.value

pub own_rows : (name : Text) (lines : Lines) (o : OutcomeParts) → IsOutcome lines o → chances_in name o.applicant_rows ≡ own_chances name lines
own_rows name lines o is = ap (chances_in name) (rows_are lines o is) ∙ chances_of_rows name lines (draw_of lines) (forms lines is.assigned)

pub few_rows : (name : Text) (lines : Lines) (o : OutcomeParts) → IsOutcome lines o → length (chances_in name o.applicant_rows) ≤ MOST_OWN
few_rows name lines o is = omega (arith, ap length (own_rows name lines o is), few_chances name lines (forms lines is.assigned))

turned : (b : Bool) (x y : Half) → cond (not b) x y ≡ cond b y x
turned true x y = refl
turned false x y = refl

-- what an outcome has of a person is what its lines come to for it
half_is : (name : Text) (lines : Lines) (o : OutcomeParts) → IsOutcome lines o → half_in name o ≡ done_half name lines
unfolding half_in done_half
half_is name lines o is =
    let found : List ℕ → ℕ → Half = λ xs d. cond (is_empty xs) half.Unlisted (half.Chances (chances_of xs) d) in
    ap (λ xs. found xs o.den) (own_rows name lines o is)
    ∙ ap (found (own_chances name lines)) (den_is lines o is)
    ∙ ap (λ b. cond b half.Unlisted (half.Chances (chances_of (own_chances name lines)) (denominator (setting lines)))) (listed name lines)
    ∙ turned (among (persons (register lines)) name) half.Unlisted (half.Chances (chances_of (own_chances name lines)) (denominator (setting lines)))

-- an outcome comes of lines that are done
done_by : (e : Ended) (lines : Lines) (o : OutcomeParts) → EndsAs e lines (Ok o) → (e ≡ Ended.Done) × IsOutcome lines o
done_by Ended.Done lines o h = (refl, h)
done_by (Ended.Refused n r) lines o h = absurd h
done_by Ended.Short lines o h = absurd h
done_by Ended.Settled lines o h = absurd h

refused_by : (e : Ended) (lines : Lines) (n : ℕ) (r : Reason) → EndsAs e lines (Err (fault.Refused n r)) → e ≡ Ended.Refused n r
refused_by Ended.Done lines n r h = absurd h
refused_by (Ended.Refused m q) lines n r h = ap (λ k. Ended.Refused k q) (sym h.0) ∙ ap (Ended.Refused n) (sym h.1)
refused_by Ended.Short lines n r h = absurd h
refused_by Ended.Settled lines n r h = absurd h

short_by : (e : Ended) (lines : Lines) → EndsAs e lines (Err fault.Short) → e ≡ Ended.Short
short_by Ended.Done lines h = absurd h
short_by (Ended.Refused m q) lines h = absurd h
short_by Ended.Short lines h = refl
short_by Ended.Settled lines h = absurd h

-- lines that come to an outcome are done, and it is theirs
pub outcome_told : (lines : Lines) (house : Standing) (o : OutcomeParts) (run : HasRun lines house) → EndsAs (ended (halt goal.Run) run.front) run.front (Ok o) →
    (end_of goal.Run lines ≡ Ended.Done) × IsOutcome lines o
outcome_told lines house o run ends =
    let parts = done_by (ended (halt goal.Run) run.front) run.front o ends in
    let done = sym (end_is run.front) ∙ parts.0 in
    (sym run.same_end ∙ done, subst (λ ls. IsOutcome ls o) (run.whole done) parts.1)

pub done_told : (name : Text) (lines : Lines) (house : Standing) (o : OutcomeParts) (run : HasRun lines house) → EndsAs (ended (halt goal.Run) run.front) run.front (Ok o) →
    half_in name o ≡ half_of name lines
unfolding half_of
done_told name lines house o run ends =
    let told = outcome_told lines house o run ends in
    half_is name lines o told.1 ∙ sym (ap (λ e. half_at e name lines) told.0)

pub few_told : (name : Text) (lines : Lines) (house : Standing) (o : OutcomeParts) (run : HasRun lines house) → EndsAs (ended (halt goal.Run) run.front) run.front (Ok o) →
    length (chances_in name o.applicant_rows) ≤ MOST_OWN
few_told name lines house o run ends = few_rows name lines o (outcome_told lines house o run ends).1

pub refused_told : (name : Text) (lines : Lines) (house : Standing) (n : ℕ) (r : Reason) (run : HasRun lines house) →
    EndsAs (ended (halt goal.Run) run.front) run.front (Err (fault.Refused n r)) → half.Refused n r ≡ half_of name lines
unfolding half_of
refused_told name lines house n r run ends =
    sym (ap (λ e. half_at e name lines) (sym run.same_end ∙ sym (end_is run.front) ∙ refused_by (ended (halt goal.Run) run.front) run.front n r ends))

pub short_told : (name : Text) (lines : Lines) (house : Standing) (run : HasRun lines house) →
    EndsAs (ended (halt goal.Run) run.front) run.front (Err fault.Short) → half.Short ≡ half_of name lines
unfolding half_of
short_told name lines house run ends =
    sym (ap (λ e. half_at e name lines) (sym run.same_end ∙ sym (end_is run.front) ∙ short_by (ended (halt goal.Run) run.front) run.front ends))

-- where they are done, they are the lines of a whole call
of_outcome : (lines : Lines) (o : OutcomeParts) → end_of goal.Run lines ≡ Ended.Done → IsOutcome lines o → AreOfCall lines
unfolding profile
of_outcome lines o done is = record { done = done; assigned = is.assigned; drawn = is.drawn }

pub done_call : (lines : Lines) (house : Standing) (o : OutcomeParts) (run : HasRun lines house) → EndsAs (ended (halt goal.Run) run.front) run.front (Ok o) → AreOfCallWhereDone lines
done_call lines house o run ends = λ done. of_outcome lines o done (outcome_told lines house o run ends).1

pub refused_call : (lines : Lines) (house : Standing) (n : ℕ) (r : Reason) (run : HasRun lines house) →
    EndsAs (ended (halt goal.Run) run.front) run.front (Err (fault.Refused n r)) → AreOfCallWhereDone lines
refused_call lines house n r run ends = λ done.
    absurd (let wrong : Ended.Done ≡ Ended.Refused n r = sym done ∙ sym run.same_end ∙ sym (end_is run.front) ∙ refused_by (ended (halt goal.Run) run.front) run.front n r ends in cc)

pub short_call : (lines : Lines) (house : Standing) (run : HasRun lines house) → EndsAs (ended (halt goal.Run) run.front) run.front (Err fault.Short) → AreOfCallWhereDone lines
short_call lines house run ends = λ done.
    absurd (let wrong : Ended.Done ≡ Ended.Short = sym done ∙ sym run.same_end ∙ sym (end_is run.front) ∙ short_by (ended (halt goal.Run) run.front) run.front ends in cc)

-- a text within the limits has few lines
pub within_lines : (text : Text) → is_over text ≡ false → length (lines text) ≤ MOST_LINES
unfolding is_over
within_lines text within = grind (arith, nat_tests)
