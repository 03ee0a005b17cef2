use Rattle.std.specs.Prelude.{ℕ, ◌+◌, Bool, Option, Some, None, [], ◌∷◌, ◌++◌, length, is_some, if◌then◌else◌, not}
use Rattle.std.specs.Option.{option_map_or}
use Rattle.house_base.specs.declared.answer.Reason.{Reason}
use Rattle.house_base.specs.declared.answer.Reason.TheVariants as reason
use Rattle.house_base.specs.declared.phase.Phase.{Phase}
use Rattle.house_base.specs.declared.phase.Phase.TheVariants as phase
use Rattle.house_base.specs.Text.{Text}
use Rattle.house_model.specs.declared.verb.Verb.TheVariants as verb
use Rattle.house_model.specs.Text.{Lines}
use Rattle.house_model.specs.Said.{has, phase_after}

-- Why a line ends a run: it is refused, or an assignment is to be computed and no valid one exists.
pub data Halt : Type 0 where
  Refused : Reason → Halt
  Short : Halt

-- How a list of lines ends, for a rule that says why, if at all, a line ends the run after the lines before it.
abbrev pub Rule : Type 0
Rule = Lines → Text → Option Halt

-- the first line that ends the run, by its number, counted from 1, where these lines come after those before
abbrev pub stop_after : Rule → Lines → Lines → Option (ℕ × Halt)
stop_after rule before [] = None
stop_after rule before (line ∷ lines) =
    option_map_or (λ why. Some (length before + 1, why)) (rule before line) (stop_after rule (before ++ line ∷ []) lines)

-- the stop of a list of lines
unfoldable pub stop_of : Rule → Lines → Option (ℕ × Halt)
stop_of rule lines = stop_after rule [] lines

-- the lines before the stop, or all where there is none
abbrev pub in_force_after : Rule → Lines → Lines → Lines
in_force_after rule before [] = []
in_force_after rule before (line ∷ lines) =
    if is_some (rule before line) then [] else line ∷ in_force_after rule (before ++ line ∷ []) lines

unfoldable pub in_force : Rule → Lines → Lines
in_force rule lines = in_force_after rule [] lines

-- How a list of lines ends: with its draw, at a line that is refused, at an assignment that cannot be, or at one that
-- settles what was asked for.
pub data Ended : Type 0 where
  Done : Ended
  Refused : ℕ → Reason → Ended
  Short : Ended
  Settled : Ended

-- the end at a stop
abbrev pub halted : ℕ → Halt → Ended
halted number (Halt.Refused reason) = Ended.Refused number reason
halted number Halt.Short = Ended.Short

-- whether the lottery was drawn
abbrev pub is_drawn : Phase → Bool
is_drawn phase.Drawn = Bool.true
is_drawn p = Bool.false

-- how a list of lines without a stop ends: behind its last line it lacks a call or a draw, or it is done
unfoldable pub last_ended : Lines → Ended
last_ended lines =
    if not (has verb.Call lines) then Ended.Refused (length lines + 1) reason.NoCall
    else if not (is_drawn (phase_after lines)) then Ended.Refused (length lines + 1) reason.Unfinished
    else Ended.Done

unfoldable pub ended : Rule → Lines → Ended
ended rule lines = option_map_or (λ s. halted s.0 s.1) (stop_of rule lines) (last_ended lines)

-- an end, but for the number of its line
abbrev pub unnumbered : Ended → Ended
unnumbered (Ended.Refused line reason) = Ended.Refused 0 reason
unnumbered end = end
