use Rattle.std.specs.Prelude.{◌≡◌, ℕ, ◌+◌, ◌<◌, Bool, ◌||◌, Option, Some, None, length}
use Rattle.std.specs.Option.{option_map_or}
use Rattle.house_base.specs.Answer.{raised}
use Rattle.house_base.specs.declared.answer.Took.{Took}
use Rattle.house_base.specs.Setting.{size}
use Rattle.house_model.specs.declared.goal.Goal.{Goal}
use Rattle.house_model.specs.declared.verb.Verb.TheVariants as verb
use Rattle.house_model.specs.Ending.{Halt, in_force, stop_of}
use Rattle.house_model.specs.Reviews.{points_of}
use Rattle.house_model.specs.Runs.{halt}
use Rattle.house_model.specs.Said.{has, setting, run_pairs}
use Rattle.house_model.specs.Text.{Lines}
use Rattle.review_desk.specs.Desk.{Marks, points_at}
use Rattle.house_core.specs.Standing.{HoldsPairs, IsShortageOf, Says, setting_in}
use Rattle.house_core.specs.declared.state.State.{State}
use Rattle.house_core.specs.declared.round.Stop.{Stop}
use Rattle.house_core.specs.declared.round.Stop.TheVariants as stop
use Rattle.house_core.specs.declared.step.Step.{Step}
use Rattle.house_core.specs.declared.step.Step.TheVariants as step

-- what a house has: what the lines in force made of the call, how many they are, and why it stopped
pub record Standing : Type 0 where
  pub state : State
  pub lines : ℕ
  pub stop : Option Stop

-- a house stopped at the line at which a list of lines stops, behind so many lines in force
abbrev pub IsStopAt : Stop → ℕ → ℕ × Halt → Type 0
IsStopAt (stop.Refused reason) lines at = (lines + 1 ≡ at.0) × (at.1 ≡ Halt.Refused reason)
IsStopAt (stop.Short shortage) lines at = (lines + 1 ≡ at.0) × (at.1 ≡ Halt.Short)
IsStopAt stop.Memory lines at = ⊥

abbrev pub StopsAs : Option Stop → ℕ → Option (ℕ × Halt) → Type 0
StopsAs None lines None = Unit {0}
StopsAs None lines (Some at) = ⊥
StopsAs (Some s) lines None = ⊥
StopsAs (Some s) lines (Some at) = IsStopAt s lines at

-- a house stands for a goal and a list of lines
pub record StandsFor (g : Goal) (lines : Lines) (house : Standing) : Type 0 where
  pub goal : house.state.goal ≡ g
  pub count : house.lines ≡ length (in_force (halt g) lines)
  pub stop : StopsAs house.stop house.lines (stop_of (halt g) lines)
  pub says : Says (in_force (halt g) lines) house.state

-- the answer to a line where the lines with it stop as given, and what becomes of the line where they don't; want
-- of memory is free
abbrev pub IsStep : Option (ℕ × Halt) → Took → Step → Type 0
IsStep None took (step.Going answer) = answer ≡ took
IsStep (Some at) took (step.Refused line reason) = (line ≡ at.0) × (at.1 ≡ Halt.Refused reason)
IsStep (Some at) took step.Short = at.1 ≡ Halt.Short
IsStep list took step.Memory = Unit {0}
IsStep list took answer = ⊥

-- the answer of a house that has stopped
abbrev pub stopped_step : ℕ → Stop → Step
stopped_step lines (stop.Refused reason) = step.Refused (raised lines) reason
stopped_step lines (stop.Short shortage) = step.Short
stopped_step lines stop.Memory = step.Memory

-- an answer after which the run goes on
abbrev pub IsGoing : Step → Type 0
IsGoing (step.Going took) = Unit {0}
IsGoing answer = ⊥

-- a shortage that ended a run is that of what its lines made of the call
abbrev pub IsShown : State → Stop → Type 0
IsShown state (stop.Short shortage) = IsShortageOf (setting_in state) shortage
IsShown state s = Unit {0}

-- whether a house stopped for a shortage
abbrev pub is_shortage : Stop → Bool
is_shortage (stop.Short shortage) = Bool.true
is_shortage s = Bool.false

abbrev pub fell_short : Standing → Bool
fell_short house = option_map_or is_shortage house.stop Bool.false

-- the lines in force fix an assignment, or the line behind them fell short of one
abbrev pub has_setting : Lines → Standing → Bool
has_setting lines house = has verb.Assign lines || fell_short house

-- The desk is what these lines say: the pairs of their assignment, and their points.
pub record IsDeskOf (lines : Lines) (desk : Marks) : Type 0 where
  pub pairs : HoldsPairs (setting lines) (run_pairs lines) desk.pairs
  pub points : (a b : ℕ) → a < size (setting lines) → b < size (setting lines) →
      points_at desk a b ≡ points_of lines a b
