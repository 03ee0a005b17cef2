-- How a run for a goal ends, and what its house has then.
use Rattle.std.proofs.Common.{◌≡◌, ◌≢◌, ℕ, ◌<◌, ◌+◌, ◌-◌, ◌^◌, ◌⊎◌, Bool, true, false, ◌&&◌, ◌||◌, cond, [], ◌∷◌, ◌++◌, length, refl, sym, ap, subst, ◌∙◌, inl, inr, Option, Some, None, Ok, Err}
use Rattle.std.specs.Prelude.{is_some, IfSome, IsSome, IsSomeAnd, MatchOption}
use Rattle.std.specs.List.{list_any}
use Rattle.std.specs.Option.{option_map_or}
use Rattle.std.proofs.lemmas.Bool.{false≢true}
use Rattle.house_base.specs.declared.answer.Reason.{Reason}
use Rattle.house_base.specs.declared.phase.Phase.{Phase}
use Rattle.house_base.specs.declared.phase.Phase.TheVariants as phase
use Rattle.house_base.specs.Text.{Text}
use Rattle.house_model.specs.declared.goal.Goal.{Goal}
use Rattle.house_model.specs.declared.goal.Goal.TheVariants as goal
use Rattle.house_model.specs.declared.verb.Verb.TheVariants as verb
use Rattle.house_model.specs.Ending.{Ended, Halt, Rule, ended, halted, in_force, in_force_after, last_ended, stop_after, stop_of}
use Rattle.house_model.specs.Faults.{looks_at_pairs}
use Rattle.house_model.specs.Report.{OutcomeParts}
use Rattle.house_model.specs.Runs.{end_of, halt, settles, through_assign}
use Rattle.house_model.specs.Said.{has, setting}
use Rattle.house_model.specs.Text.{Lines}
use Rattle.house_model.specs.Verbs.{commands}
use Rattle.house_base.specs.Setting.{Setting}
use Rattle.review_desk.specs.Desk.{IsSetUp, Marks}
use Rattle.seat_quota.specs.Tally.{DeskTotals, IsTally}
use Rattle.house_core.specs.declared.round.Round.{Round}
use Rattle.house_core.specs.declared.round.Stop.{Stop}
use Rattle.house_core.specs.declared.round.Stop.TheVariants as stop
use Rattle.house_core.specs.declared.state.State.{State}
use Rattle.house_core.specs.declared.step.Ending.{Ending}
use Rattle.house_core.specs.declared.step.Ending.TheVariants as ending
use Rattle.house_core.specs.declared.step.EndFault.TheVariants as fault
use Rattle.house_base.specs.Answer.{raised}
use Rattle.house_core.specs.Ends.{EndsAs, IsEnding, IsEndingAt, ShowsShort}
use Rattle.house_core.specs.House.{IsDeskOf, IsShown, Standing, StandsFor, StopsAs}
use Rattle.house_core.specs.Standing.{IsRoundOf, IsShortageOf, IsState, IsTallyOf, Says}
use Rattle.house_core.proofs.EndLemmas.{end_stopped}
use Rattle.house_core.proofs.EndingLemmas.{in_force_all}
use Rattle.house_core.proofs.HouseLemmas.{going}
use Rattle.house_core.proofs.ShortLemmas.{shown_shortage}

-- The end, by the lines in force.

assigns : Lines → Bool
unfolding has
assigns lines = has verb.Assign lines

any_in_force : (o : Option Halt) (test : Text → Bool) (lines : Lines) → list_any test (cond (is_some o) [] lines) ≡ cond (is_some o) false (list_any test lines)
any_in_force None test lines = refl
any_in_force (Some why) test lines = refl

-- one line: it ends the run, it is the assignment, or the lines behind it say how the run ends
by_line : (n : ℕ) (o : Option Halt) (assign later kept : Bool) (rule : Rule) (before through : Lines) (rest : Option (ℕ × Halt)) (last : Ended) →
    option_map_or (λ (s : ℕ × Halt). halted s.0 s.1) (stop_after rule before through) (cond later Ended.Settled last) ≡ cond kept Ended.Settled (option_map_or (λ (s : ℕ × Halt). halted s.0 s.1) rest last) →
    option_map_or (λ (s : ℕ × Halt). halted s.0 s.1) (option_map_or (λ why. Some (n, why)) o (stop_after rule before (cond assign [] through))) (cond (assign || later) Ended.Settled last)
    ≡ cond (cond (is_some o) false (assign || kept)) Ended.Settled (option_map_or (λ (s : ℕ × Halt). halted s.0 s.1) (option_map_or (λ why. Some (n, why)) o rest) last)
by_line n (Some why) assign later kept rule before through rest last h = refl
by_line n None true later kept rule before through rest last h = refl
by_line n None false later kept rule before through rest last h = h

through_end : (rule : Rule) (before lines : Lines) (last : Ended) →
    option_map_or (λ (s : ℕ × Halt). halted s.0 s.1) (stop_after rule before (through_assign lines)) (cond (list_any (commands verb.Assign) lines) Ended.Settled last)
    ≡ cond (list_any (commands verb.Assign) (in_force_after rule before lines)) Ended.Settled (option_map_or (λ (s : ℕ × Halt). halted s.0 s.1) (stop_after rule before lines) last)
through_end rule before [] last = refl
through_end rule before (line ∷ lines) last =
    let next = before ++ line ∷ [] in
    let rest = in_force_after rule next lines in
    by_line (length before + 1) (rule before line) (commands verb.Assign line) (list_any (commands verb.Assign) lines) (list_any (commands verb.Assign) rest) rule next (through_assign lines) (stop_after rule next lines) last
    (through_end rule next lines last)
    ∙ sym (ap (λ b. cond b Ended.Settled (option_map_or (λ (s : ℕ × Halt). halted s.0 s.1) (stop_after rule before (line ∷ lines)) last)) (any_in_force (rule before line) (commands verb.Assign) (line ∷ rest)))

-- a run ends settled where the assignment is in force that reaches its goal, and else as its lines
pub end_in_force : (g : Goal) (lines : Lines) → end_of g lines ≡ cond (settles g && has verb.Assign (in_force (halt g) lines)) Ended.Settled (ended (halt g) lines)
unfolding end_of ended stop_of in_force has
end_in_force goal.Run lines = refl
end_in_force goal.Pairs lines = through_end (halt goal.Pairs) [] lines (last_ended lines)
end_in_force goal.Feasible lines = through_end (halt goal.Feasible) [] lines (last_ended lines)

end_reached : (g : Goal) (lines : Lines) → settles g ≡ true → has verb.Assign (in_force (halt g) lines) ≡ true → end_of g lines ≡ Ended.Settled
end_reached g lines goes has_assign = end_in_force g lines ∙ (rw (goes, has_assign) refl)

end_unreached : (g : Goal) (lines : Lines) → (settles g && has verb.Assign (in_force (halt g) lines)) ≡ false → end_of g lines ≡ ended (halt g) lines
end_unreached g lines open_still = end_in_force g lines ∙ (rw open_still refl)

-- What ends as its lines, said of an ending.

pub refused_ends : (e : Ended) (g : Goal) (lines said : Lines) (n : ℕ) (r : Reason) → EndsAs e lines (Err (fault.Refused n r)) → IsEnding e g said (ending.Refused n r)
refused_ends Ended.Done g lines said n r h = absurd h
refused_ends (Ended.Refused m q) g lines said n r h = h
refused_ends Ended.Short g lines said n r h = absurd h
refused_ends Ended.Settled g lines said n r h = absurd h

is_short : (e : Ended) (lines : Lines) → EndsAs e lines (Err fault.Short) → e ≡ Ended.Short
is_short Ended.Done lines h = absurd h
is_short (Ended.Refused m q) lines h = absurd h
is_short Ended.Short lines h = refl
is_short Ended.Settled lines h = absurd h

pub done_ends : (e : Ended) (g : Goal) (lines : Lines) (o : OutcomeParts) → EndsAs e lines (Ok o) → IsEnding e g lines (ending.Done o)
done_ends Ended.Done g lines o h = h
done_ends (Ended.Refused m q) g lines o h = absurd h
done_ends Ended.Short g lines o h = absurd h
done_ends Ended.Settled g lines o h = absurd h

-- The house.

no_stand : (g : Goal) (lines : Lines) (n : ℕ) (at : Option (ℕ × Halt)) → StopsAs (Some stop.Memory) n at → ⊥
no_stand g lines n None h = h
no_stand g lines n (Some at) h = h

-- a house that lacked memory stands for no lines
pub lacked : (g : Goal) (lines : Lines) (h : Standing) → StandsFor g lines h → h.stop ≡ Some stop.Memory → ⊥
lacked g lines h is none_left = no_stand g lines h.lines (stop_of (halt g) lines) (rw none_left at is.stop)

pub unsettled_run : (g : Goal) → settles g ≡ false → g ≡ goal.Run
unsettled_run goal.Run h = refl
unsettled_run goal.Pairs h = absurd (false≢true (sym h))
unsettled_run goal.Feasible h = absurd (false≢true (sym h))

opening_by : (p : Phase) (round : Option Round) → (p ≢ phase.Opening → IsSome round) → round ≡ None → p ≡ phase.Opening
opening_by phase.Opening round assigned none = refl
opening_by phase.Reviewing round assigned none = absurd (let held : false ≡ true = rw none at (assigned (λ e. cc)) in false≢true held)
opening_by phase.Closed round assigned none = absurd (let held : false ≡ true = rw none at (assigned (λ e. cc)) in false≢true held)
opening_by phase.Drawn round assigned none = absurd (let held : false ≡ true = rw none at (assigned (λ e. cc)) in false≢true held)

pub opening_unassigned : (s : State) → IsState s → s.round ≡ None → s.phase ≡ phase.Opening
opening_unassigned s is none = opening_by s.phase s.round is.assigned none

and_no : (b : Bool) → (b && false) ≡ false
and_no true = refl
and_no false = refl

unassigned : (g : Goal) (lines : Lines) (s : State) → Says lines s → s.round ≡ None → has verb.Assign lines ≡ false
unassigned g lines s says none = rw none at says.round

-- a house that has not reached its goal
pub unreached : (g : Goal) (lines : Lines) (h : Standing) → StandsFor g lines h → IsState h.state → (h.state.goal ≡ goal.Run) ⊎ (h.state.phase ≡ phase.Opening) →
    (settles g && has verb.Assign (in_force (halt g) lines)) ≡ false
unreached g lines h is state open_still =
    let said = in_force (halt g) lines in
    elim open_still [
      | inl run ↦ ap (λ goal. settles goal && has verb.Assign said) (sym is.goal ∙ run)
      | inr opening ↦ ap (λ b. settles g && b) (unassigned g said h.state is.says (state.opening opening)) ∙ and_no (settles g)
    ]

-- the desk of a tally is what the lines say
desk_of : (lines : Lines) (t : DeskTotals) (desk : Marks) → IsTallyOf lines t → desk ≡ t.desk → IsDeskOf lines desk
desk_of lines t desk is same = subst (IsDeskOf lines) (sym same) (record { pairs = is.pairs; points = is.points })

pub desk_says : {R : Type 0} (desk : Option R) (now : R → Marks) (tally : Option DeskTotals) (g : Goal) (lines : Lines) →
    MatchOption desk (tally ≡ None) (λ d. IsSomeAnd tally (λ t. now d ≡ t.desk)) →
    MatchOption tally (looks_at_pairs g ≡ false) (λ t. (looks_at_pairs g ≡ true) × IsTallyOf lines t) →
    MatchOption desk (looks_at_pairs g ≡ false) (λ d. (looks_at_pairs g ≡ true) × IsDeskOf lines (now d))
desk_says None now None g lines h says = says
desk_says None now (Some t) g lines h says = absurd (cc)
desk_says (Some d) now None g lines h says = absurd h
desk_says (Some d) now (Some t) g lines h says = (says.0, desk_of lines t (now d) says.1 h)

set_up_by : {R : Type 0} (desk : Option R) (now : R → Marks) (tally : Option DeskTotals) (plan s : Setting) → MatchOption desk (tally ≡ None) (λ d. IsSomeAnd tally (λ t. now d ≡ t.desk))
    → IfSome tally (λ t. IsTally plan t) → plan ≡ s → IfSome desk (λ d. IsSetUp s (now d))
set_up_by None now tally plan s h t e = tt
set_up_by (Some d) now None plan s h t e = absurd h
set_up_by (Some d) now (Some x) plan s h t e = subst (λ z. IsSetUp z (now d)) e (subst (IsSetUp plan) (sym h) t.desk)

-- the desk of a round was set up from the plan that the lines give
pub desk_set_up : {R : Type 0} (desk : Option R) (now : R → Marks) (g : Goal) (lines : Lines) (h : Standing) (round : Round) → StandsFor g lines h → IsState h.state → h.state.round ≡ Some round
    → MatchOption desk (round.tally ≡ None) (λ d. IsSomeAnd round.tally (λ t. now d ≡ t.desk)) → IfSome desk (λ d. IsSetUp (setting (in_force (halt g) lines)) (now d))
desk_set_up desk now g lines h round is state fixed own =
    let held : IfSome round.tally (λ t. IsTally round.plan.value t) = rw fixed at state.tallied in
    let said : IsRoundOf h.state.goal (in_force (halt g) lines) round = rw fixed at is.says.round in
    set_up_by desk now round.tally round.plan.value (setting (in_force (halt g) lines)) own held said.plan

pub state_here : (inside seen : Standing) → inside ≡ seen → IsState inside.state → IsState seen.state
state_here inside seen same is = subst (λ (h : Standing). IsState h.state) same is

module _ (g : Goal) (lines : Lines) (h : Standing) (is : StandsFor g lines h) where
  -- it has reached its goal
  pub ends_reached : (round : Round) → settles h.state.goal ≡ true → h.state.round ≡ Some round →
      (end_of g lines ≡ Ended.Settled) × IsRoundOf g (in_force (halt g) lines) round
  ends_reached round goes fixed =
      let said = in_force (halt g) lines in
      let here : IsRoundOf h.state.goal said round = rw fixed at is.says.round in
      let own : IsRoundOf g said round = subst (λ goal. IsRoundOf goal said round) is.goal here in
      (end_reached g lines (sym (ap settles is.goal) ∙ goes) own.fixed, own)

  module _ (state : IsState h.state) (open_still : (h.state.goal ≡ goal.Run) ⊎ (h.state.phase ≡ phase.Opening)) where
    as_lines : end_of g lines ≡ ended (halt g) lines
    as_lines = end_unreached g lines (unreached g lines h is state open_still)

    -- it has stopped
    pub ends_stopped : (s : Stop) (answer : Ending) → IfSome h.stop (IsShown h.state) → h.stop ≡ Some s → length lines < 2 ^ 64 - 1 → IsEndingAt s h.lines answer →
        IsEnding (end_of g lines) g (in_force (halt g) lines) answer
    ends_stopped (stop.Refused r) answer shown some few at =
        subst (λ a. IsEnding (end_of g lines) g (in_force (halt g) lines) a) (sym at)
        (subst (λ e. IsEnding e g (in_force (halt g) lines) (ending.Refused (raised h.lines) r)) (sym as_lines)
        (refused_ends (ended (halt g) lines) g lines (in_force (halt g) lines) (raised h.lines) r (end_stopped g lines h (stop.Refused r) is some few)))
    ends_stopped (stop.Short x) (ending.Short plan cut) shown some few at =
        let said = in_force (halt g) lines in
        let short : IsShortageOf (setting said) x = shown_shortage g lines h x is shown some in
        let shows : ShowsShort (setting said) x.cut = record { reviewers = short.reviewers; proposals = short.proposals; printed = short.printed } in
        subst (λ e. IsEnding e g said (ending.Short plan cut)) (sym (as_lines ∙ is_short (ended (halt g) lines) lines (end_stopped g lines h (stop.Short x) is some few)))
        (at.0 ∙ short.plan, subst (ShowsShort (setting said)) (sym at.1) shows)
    ends_stopped (stop.Short x) answer shown some few at = absurd at
    ends_stopped stop.Memory answer shown some few at = absurd (lacked g lines h is some)

    -- it goes on
    pub ends_last : (answer : Ending) → h.stop ≡ None → IsEnding (ended (halt g) lines) g lines answer → IsEnding (end_of g lines) g (in_force (halt g) lines) answer
    ends_last answer none ends =
        subst (λ said. IsEnding (end_of g lines) g said answer) (sym (in_force_all (halt g) lines (going g lines h is none)))
        (subst (λ e. IsEnding e g lines answer) (sym as_lines) ends)
