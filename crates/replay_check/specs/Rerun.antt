-- What lines come to when they are run again.
use Rattle.std.specs.Prelude.{◌≡◌, ◌-◌, ◌^◌, ◌<◌, List, [], length}
use Rattle.end_text.specs.End.{ended_as}
use Rattle.end_text.specs.declared.end.RunEnd.{RunEnd}
use Rattle.house_base.specs.Text.{Text}
use Rattle.house_base.specs.declared.answer.Took.{Took}
use Rattle.house_core.specs.House.{Standing, StandsFor}
use Rattle.house_model.specs.declared.goal.Goal.TheVariants as goal
use Rattle.house_model.specs.EndTexts.{IsEndText}
use Rattle.house_model.specs.Ending.{in_force}
use Rattle.house_model.specs.LineMarks.{marks, marks_after}
use Rattle.house_model.specs.Runs.{end_of, halt, taken}
use Rattle.house_model.specs.Text.{Lines}

-- A house has run these lines for the report, up to one that ends the run, and these are the marks of those before it.
pub record HasRun (lines : Lines) (house : Standing) (marks : List Took) : Type 0 where
  pub front : Lines
  pub stands : StandsFor goal.Run front house
  pub few : length front < 2 ^ 64 - 1
  pub same_end : end_of goal.Run front ≡ end_of goal.Run lines
  pub same_lines : in_force (halt goal.Run) front ≡ taken goal.Run lines
  pub marked : marks ≡ marks_after goal.Run [] (taken goal.Run lines)

-- These are the marks of lines that are run for the report, and how they end, with the text.
pub record IsRerun (lines : Lines) (made : List Took) (end : RunEnd) (text : Text) : Type 0 where
  pub marked : made ≡ marks lines
  pub ends : ended_as end ≡ end_of goal.Run lines
  pub says : IsEndText lines text
