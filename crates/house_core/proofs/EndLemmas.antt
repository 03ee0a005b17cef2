-- How a house ends.
use Rattle.std.proofs.Common.{◌≡◌, ℕ, ◌<◌, ◌+◌, ◌-◌, ◌^◌, ◌⊎◌, Bool, true, false, length, refl, sym, ap, subst, ◌∙◌, inl, inr, Option, Some, None, Ok, Err}
use Rattle.std.specs.Prelude.{is_some, IfSome, MatchOption}
use Rattle.std.specs.Option.{option_map_or}
use Rattle.house_base.specs.Answer.{raised}
use Rattle.house_base.specs.Setting.{IsSetting}
use Rattle.house_base.specs.declared.answer.Asides.{Asides}
use Rattle.house_base.specs.declared.answer.Reason.TheVariants as reason
use Rattle.house_base.specs.declared.call.Call.{Call}
use Rattle.house_base.specs.declared.phase.Phase.{Phase}
use Rattle.house_base.specs.declared.phase.Phase.TheVariants as phase
use Rattle.house_base.specs.Grid.{cell}
use Rattle.peer_selection.specs.Profile.{denominator, profile_on}
use Rattle.house_model.specs.declared.goal.Goal.{Goal}
use Rattle.house_model.specs.declared.goal.Goal.TheVariants as goal
use Rattle.house_model.specs.declared.verb.Verb.TheVariants as verb
use Rattle.house_model.specs.Ending.{Ended, Halt, ended, halted, is_drawn, last_ended, stop_of}
use Rattle.house_model.specs.Faults.{looks_at_pairs}
use Rattle.house_model.specs.Report.{OutcomeParts, outcome_of}
use Rattle.house_model.specs.Reviews.{asides_of, points_of, profile}
use Rattle.house_model.specs.Runs.{halt}
use Rattle.house_model.specs.Said.{has, phase_after, seats_of, clusters_of, reviews_of, setting, run_pairs, draw_of, denominator_of}
use Rattle.house_model.specs.Text.{Lines}
use Rattle.review_desk.specs.Desk.{desk_profile, points_at}
use Rattle.seat_quota.specs.Tally.{DeskTotals, IsTally}
use Rattle.house_core.specs.declared.round.Round.{Round}
use Rattle.house_core.specs.declared.round.Stop.{Stop}
use Rattle.house_core.specs.declared.round.Stop.TheVariants as stop
use Rattle.house_core.specs.declared.state.State.{State}
use Rattle.house_core.specs.declared.step.EndFault.TheVariants as fault
use Rattle.house_core.specs.Ends.{EndsAs, IsOutcome, stopped_fault}
use Rattle.house_core.specs.House.{Standing, StandsFor, StopsAs, IsStopAt}
use Rattle.house_core.specs.Standing.{IsRoundOf, IsState, IsTallyOf, Says}
use Rattle.house_core.proofs.HouseLemmas.{going, going_says, going_count, raised_below, stop_numbered}
use Rattle.house_core.proofs.OutcomeSameLemmas.{outcome_of-same}

-- how lines end that have a stop, or none
ends_at_stop : (g : Goal) (lines : Lines) (at : ℕ × Halt) → stop_of (halt g) lines ≡ Some at → ended (halt g) lines ≡ halted at.0 at.1
unfolding ended
ends_at_stop g lines at e = ap (λ o. option_map_or (λ (s : ℕ × Halt). halted s.0 s.1) o (last_ended lines)) e

ends_last : (g : Goal) (lines : Lines) → stop_of (halt g) lines ≡ None → ended (halt g) lines ≡ last_ended lines
unfolding ended
ends_last g lines e = ap (λ o. option_map_or (λ (s : ℕ × Halt). halted s.0 s.1) o (last_ended lines)) e

no_call_ends : (lines : Lines) → has verb.Call lines ≡ false → last_ended lines ≡ Ended.Refused (length lines + 1) reason.NoCall
unfolding last_ended
no_call_ends lines e = rw e refl

undrawn_ends : (lines : Lines) → has verb.Call lines ≡ true → is_drawn (phase_after lines) ≡ false → last_ended lines ≡ Ended.Refused (length lines + 1) reason.Unfinished
unfolding last_ended
undrawn_ends lines called undrawn = rw (called, undrawn) refl

drawn_ends : (lines : Lines) → has verb.Call lines ≡ true → is_drawn (phase_after lines) ≡ true → last_ended lines ≡ Ended.Done
unfolding last_ended
drawn_ends lines called drawn = rw (called, drawn) refl

-- the answer of a house that has stopped
pub end_stopped : (g : Goal) (lines : Lines) (h : Standing) (s : Stop) → StandsFor g lines h → h.stop ≡ Some s → length lines < 2 ^ 64 - 1 →
    EndsAs (ended (halt g) lines) lines (Err (stopped_fault h.lines s))
end_stopped g lines h s is some few = at_stop (stop_of (halt g) lines) refl (rw some at is.stop)
  where
    answer : (s : Stop) (n : ℕ) (why : Halt) → stop_of (halt g) lines ≡ Some (n, why) → IsStopAt s h.lines (n, why) → EndsAs (halted n why) lines (Err (stopped_fault h.lines s))
    answer (stop.Refused r) n why e q = rw q.1 (stop_numbered g lines h.lines n why e q.0 few, refl)
    answer (stop.Short x) n why e q = rw q.1 tt
    answer stop.Memory n why e q = absurd q

    at_stop : (t : Option (ℕ × Halt)) → stop_of (halt g) lines ≡ t → StopsAs (Some s) h.lines t → EndsAs (ended (halt g) lines) lines (Err (stopped_fault h.lines s))
    at_stop None e q = absurd q
    at_stop (Some at) e q = rw (ends_at_stop g lines at e) (answer s at.0 at.1 e q)

-- what the outcome of a tally is, by the lines
outcome_is : (lines : Lines) (round : Round) (tally : DeskTotals) (outcome : OutcomeParts) (asides : Asides) (draw : ℕ) → round.plan.value ≡ setting lines → IsTallyOf lines tally →
    IsTally round.plan.value tally → asides ≡ asides_of goal.Run lines → draw ≡ draw_of lines → draw < denominator round.plan.value →
    outcome ≡ outcome_of (desk_profile round.plan.value tally.desk) asides draw → IsOutcome lines outcome
unfolding profile
outcome_is lines round tally outcome asides draw plan said is is_asides is_draw below made =
    let desk = tally.desk in
    let s = setting lines in
    record {
      assigned = record { setting = subst IsSetting plan is.desk.setting; valid = said.valid };
      drawn = rw (is_draw, plan) at below;
      value =
          made
          ∙ ap (λ plan. outcome_of (profile_on plan (cell desk.pairs) (points_at desk)) asides draw) plan
          ∙ outcome_of-same s (cell desk.pairs) (points_at desk) (run_pairs lines) (points_of lines) asides draw said.pairs.cells said.points
          ∙ ap (λ a. outcome_of (profile_on s (run_pairs lines) (points_of lines)) a draw) is_asides
          ∙ ap (outcome_of (profile_on s (run_pairs lines) (points_of lines)) (asides_of goal.Run lines)) is_draw;
    }

drawn_by : (p : Phase) → is_drawn p ≡ true → p ≡ phase.Drawn
drawn_by phase.Opening h = cc
drawn_by phase.Reviewing h = cc
drawn_by phase.Closed h = cc
drawn_by phase.Drawn h = refl

-- a run that drew is one for the report
pub for_report : (s : State) → (s.goal ≡ goal.Run) ⊎ (s.phase ≡ phase.Opening) → is_drawn s.phase ≡ true → s.goal ≡ goal.Run
for_report s asked drawn = elim asked [
  | inl run ↦ run
  | inr opening ↦ let undrawn : is_drawn s.phase ≡ false = ap is_drawn opening in cc
]

-- a draw that was fixed is below the denominator
pub drawn_below : (s : State) (round : Round) → IsState s → s.round ≡ Some round → is_drawn s.phase ≡ true → s.draw < denominator round.plan.value
drawn_below s round is fixed drawn =
    let same : denominator round.plan.value ≡ denominator_of s.book = rw fixed at is.settled in
    let below : s.draw < denominator_of s.book = is.drawn (drawn_by s.phase drawn) in
    rw same below

pub tally_of : (s : State) (round : Round) (tally : DeskTotals) → IsState s → s.round ≡ Some round → round.tally ≡ Some tally → IsTally round.plan.value tally
tally_of s round tally is fixed some =
    let held : IfSome round.tally (λ t. IsTally round.plan.value t) = rw fixed at is.tallied in
    rw some at held

call_by : (call : Option Call) (has_call : Bool) (lines : Lines) → MatchOption call (has_call ≡ false) (λ c.
    (has_call ≡ true) × (c.seats ≡ seats_of lines) × (c.clusters ≡ clusters_of lines) × (c.reviews ≡ reviews_of lines)) → is_some call ≡ has_call
call_by None has_call lines h = sym h
call_by (Some c) has_call lines h = sym h.0

-- the call that the lines made
called : (lines : Lines) (s : State) → Says lines s → is_some s.call ≡ has verb.Call lines
called lines s says = call_by s.call (has verb.Call lines) lines says.call

-- a house that goes on

module _ (g : Goal) (lines : Lines) (h : Standing) (is : StandsFor g lines h) (none : h.stop ≡ None) (few : length lines < 2 ^ 64 - 1) where
  number : raised h.lines ≡ length lines + 1
  number = ap raised (going_count g lines h is none) ∙ raised_below _ few

  phase_says : is_drawn h.state.phase ≡ is_drawn (phase_after lines)
  phase_says = ap is_drawn (going_says g lines h is none).phase

  pub end_without_call : is_some h.state.call ≡ false → EndsAs (ended (halt g) lines) lines (Err (fault.Refused (raised h.lines) reason.NoCall))
  end_without_call no_call =
      let says = going_says g lines h is none in
      let uncalled : has verb.Call lines ≡ false = sym (called lines h.state says) ∙ no_call in
      rw (ends_last g lines (going g lines h is none) ∙ no_call_ends lines uncalled) (number, refl)

  pub end_undrawn : is_some h.state.call ≡ true → is_drawn h.state.phase ≡ false → EndsAs (ended (halt g) lines) lines (Err (fault.Refused (raised h.lines) reason.Unfinished))
  end_undrawn some undrawn =
      let says = going_says g lines h is none in
      let made : has verb.Call lines ≡ true = sym (called lines h.state says) ∙ some in
      rw (ends_last g lines (going g lines h is none) ∙ undrawn_ends lines made (sym phase_says ∙ undrawn)) (number, refl)

  -- behind a draw nothing lacks
  pub end_drawn : is_some h.state.call ≡ true → is_drawn h.state.phase ≡ true → ended (halt g) lines ≡ Ended.Done
  end_drawn some drawn =
      let says = going_says g lines h is none in
      ends_last g lines (going g lines h is none) ∙ drawn_ends lines (sym (called lines h.state says) ∙ some) (sym phase_says ∙ drawn)

  -- the outcome of its assignment at its draw
  pub end_done : (round : Round) (tally : DeskTotals) (outcome : OutcomeParts) → IsState h.state → (h.state.goal ≡ goal.Run) ⊎ (h.state.phase ≡ phase.Opening) →
      is_some h.state.call ≡ true → is_drawn h.state.phase ≡ true → h.state.round ≡ Some round → round.tally ≡ Some tally →
      outcome ≡ outcome_of (desk_profile round.plan.value tally.desk) h.state.asides h.state.draw → EndsAs (ended (halt g) lines) lines (Ok outcome)
  end_done round tally outcome state asked some drawn fixed has_tally made =
      let says = going_says g lines h is none in
      let run : h.state.goal ≡ goal.Run = for_report h.state asked drawn in
      let is_called : has verb.Call lines ≡ true = sym (called lines h.state says) ∙ some in
      let round_says : IsRoundOf h.state.goal lines round = rw fixed at says.round in
      let tally_says : (looks_at_pairs h.state.goal ≡ true) × IsTallyOf lines tally = rw has_tally at round_says.tally in
      let ends : ended (halt g) lines ≡ Ended.Done = ends_last g lines (going g lines h is none) ∙ drawn_ends lines is_called (sym phase_says ∙ drawn) in
      rw ends (outcome_is lines round tally outcome h.state.asides h.state.draw round_says.plan tally_says.1 (tally_of h.state round tally state fixed has_tally)
      (says.asides ∙ ap (λ purpose. asides_of purpose lines) run) says.draw (drawn_below h.state round state fixed drawn) made)
