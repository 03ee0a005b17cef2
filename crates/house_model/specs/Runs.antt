use Rattle.std.specs.Prelude.{Bool, true, false, Option, Some, None, is_some, [], ◌∷◌, List, ℕ, ◌&&◌, ◌||◌, not, if◌then◌else◌}
use Rattle.std.specs.Option.{option_map_or}
use Rattle.house_base.specs.Text.{Text}
use Rattle.peer_selection.specs.FirstAssignment.{has_assignment}
use Rattle.house_model.specs.declared.goal.Goal.{Goal}
use Rattle.house_model.specs.declared.goal.Goal.TheVariants as goal
use Rattle.house_model.specs.declared.verb.Verb.{Verb}
use Rattle.house_model.specs.declared.verb.Verb.TheVariants as verb
use Rattle.house_model.specs.Ending.{Halt, Ended, halted, stop_of, in_force, last_ended}
use Rattle.house_model.specs.Faults.{fault, looks_at_pairs}
use Rattle.house_model.specs.Report.{report}
use Rattle.house_model.specs.Reviews.{profile, asides_of}
use Rattle.house_model.specs.Said.{has, has_pairs, setting, draw_of}
use Rattle.house_model.specs.Text.{Lines}
use Rattle.house_model.specs.Verbs.{verb_in, commands}

-- How a run of a list of lines goes for a goal.

-- whether an assignment is looked for: where only its existence is asked for, or no pairs were made by hand
abbrev pub searches : Goal → Lines → Bool
searches g before = not (looks_at_pairs g && has_pairs before)

-- an assignment is looked for and there is no valid one
abbrev pub falls_short : Goal → Lines → Verb → Bool
falls_short g before verb.Assign = searches g before && not (has_assignment (setting before))
falls_short g before v = false

-- why a line ends the run after the lines before it: its fault, or that an assignment falls short
unfoldable pub halt : Goal → Lines → Text → Option Halt
halt g before line = option_map_or (λ reason. Some (Halt.Refused reason)) (fault g before line)
    (if falls_short g before (verb_in line) then Some Halt.Short else None)

-- the lines up to the first that asks for an assignment, and with it
abbrev pub through_assign : Lines → Lines
through_assign [] = []
through_assign (line ∷ lines) = line ∷ (if commands verb.Assign line then [] else through_assign lines)

-- the lines that are looked at for a goal: where the assignment is all that is asked for, none behind it
abbrev pub looked_at : Goal → Lines → Lines
looked_at goal.Run lines = lines
looked_at goal.Pairs lines = through_assign lines
looked_at goal.Feasible lines = through_assign lines

-- whether a goal is reached by an assignment that is accepted
abbrev pub settles : Goal → Bool
settles goal.Run = false
settles goal.Pairs = true
settles goal.Feasible = true

-- how lines without a stop end for a goal
abbrev pub last_of : Goal → Lines → Ended
last_of g lines = if settles g && has verb.Assign lines then Ended.Settled else last_ended lines

-- how a list of lines ends for a goal
unfoldable pub end_of : Goal → Lines → Ended
end_of g lines = option_map_or (λ s. halted s.0 s.1) (stop_of (halt g) (looked_at g lines)) (last_of g lines)

-- whether some line ends the run
unfoldable pub ends_run : Goal → Lines → Bool
ends_run g lines = is_some (stop_of (halt g) (looked_at g lines)) || (settles g && has verb.Assign lines)

-- the lines that were taken when the run has ended
unfoldable pub taken : Goal → Lines → Lines
taken g lines = in_force (halt g) (looked_at g lines)

-- the report of a list of lines
unfoldable pub report_of : Lines → List ℕ
report_of lines = report (profile lines) (asides_of goal.Run lines) (draw_of lines)
