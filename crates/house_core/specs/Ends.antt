use Rattle.std.specs.Prelude.{◌≡◌, ◌<◌, ℕ, true, false, MatchOption, Result, Ok, Err, length}
use Rattle.cut_gap.specs.Cut.{Sides, marked}
use Rattle.house_base.specs.Answer.{raised}
use Rattle.house_base.specs.Setting.{Setting, size}
use Rattle.house_base.specs.declared.answer.Reason.{Reason}
use Rattle.house_base.specs.declared.memory.Memory.{Memory}
use Rattle.peer_selection.specs.Laws.{IsAssigned}
use Rattle.peer_selection.specs.Profile.{denominator}
use Rattle.peer_selection.specs.Shortage.{IsShortage, assignment_demand}
use Rattle.house_model.specs.declared.goal.Goal.{Goal}
use Rattle.house_model.specs.declared.goal.Goal.TheVariants as goal
use Rattle.house_model.specs.Text.{Lines}
use Rattle.house_model.specs.Ending.{Ended}
use Rattle.house_model.specs.Faults.{looks_at_pairs}
use Rattle.house_model.specs.Report.{OutcomeParts, outcome_of}
use Rattle.house_model.specs.Reviews.{asides_of, profile}
use Rattle.house_model.specs.Said.{draw_of, setting}
use Rattle.house_core.specs.House.{IsDeskOf}
use Rattle.house_core.specs.declared.step.Ending.{Ending}
use Rattle.house_core.specs.declared.step.Ending.TheVariants as ending
use Rattle.house_core.specs.declared.step.EndFault.{EndFault}
use Rattle.house_core.specs.declared.step.EndFault.TheVariants as fault
use Rattle.house_core.specs.declared.round.Stop.{Stop}
use Rattle.house_core.specs.declared.round.Stop.TheVariants as stop

-- the outcome is that of these lines: of their profile, what they set aside and their draw
pub record IsOutcome (lines : Lines) (o : OutcomeParts) : Type 0 where
  pub assigned : IsAssigned (profile lines)
  pub drawn : draw_of lines < denominator (profile lines).setting
  pub value : o ≡ outcome_of (profile lines) (asides_of goal.Run lines) (draw_of lines)

-- how a house ends where its lines end as given; want of memory is free
abbrev pub EndsAs : Ended → Lines → Result OutcomeParts EndFault → Type 0
EndsAs e lines (Err fault.Memory) = Unit {0}
EndsAs (Ended.Refused n r) lines (Err (fault.Refused m q)) = (m ≡ n) × (q ≡ r)
EndsAs Ended.Short lines (Err fault.Short) = Unit {0}
EndsAs Ended.Done lines (Ok outcome) = IsOutcome lines outcome
EndsAs e lines answer = ⊥

-- the answer of a house that has stopped behind so many lines
abbrev pub stopped_fault : ℕ → Stop → EndFault
stopped_fault lines (stop.Refused reason) = fault.Refused (raised lines) reason
stopped_fault lines (stop.Short shortage) = fault.Short
stopped_fault lines stop.Memory = fault.Memory

-- the cut shows that a setting has no valid assignment
pub record ShowsShort (s : Setting) (cut : Sides) : Type 0 where
  pub reviewers : length cut.reviewers ≡ size s
  pub proposals : length cut.proposals ≡ size s
  pub printed : IsShortage (assignment_demand s) (marked cut.reviewers) (marked cut.proposals)

-- How a house ends for a goal whose lines end as given, where these are in force. Only an outcome takes memory.
abbrev pub IsEnding : Ended → Goal → Lines → Ending → Type 0
IsEnding Ended.Settled g lines (ending.Settled plan desk) = (plan.now ≡ setting lines)
    × MatchOption desk (looks_at_pairs g ≡ false) (λ desk. (looks_at_pairs g ≡ true) × IsDeskOf lines desk.now)
IsEnding Ended.Done g lines (ending.Done outcome) = IsOutcome lines outcome
IsEnding Ended.Done g lines ending.Memory = Unit {0}
IsEnding (Ended.Refused n r) g lines (ending.Refused m q) = (m ≡ n) × (q ≡ r)
IsEnding Ended.Short g lines (ending.Short plan cut) = (plan.now ≡ setting lines) × ShowsShort (setting lines) cut.now
IsEnding e g lines answer = ⊥

-- the ending of a house that goes on behind so many lines: with its outcome, or with why their end is refused
abbrev pub last_ending : ℕ → Result (Result OutcomeParts Reason) Memory → Ending
last_ending lines (Ok (Ok outcome)) = ending.Done outcome
last_ending lines (Ok (Err reason)) = ending.Refused (raised lines) reason
last_ending lines (Err memory) = ending.Memory

-- the ending of a house that has stopped behind so many lines
abbrev pub IsEndingAt : Stop → ℕ → Ending → Type 0
IsEndingAt (stop.Refused reason) lines answer = answer ≡ ending.Refused (raised lines) reason
IsEndingAt (stop.Short shortage) lines (ending.Short plan cut) = (plan.now ≡ shortage.plan.value) × (cut.now ≡ shortage.cut)
IsEndingAt (stop.Short shortage) lines answer = ⊥
IsEndingAt stop.Memory lines answer = answer ≡ ending.Memory
