-- How a run has ended, beside what its lines come to.
use Rattle.std.specs.Prelude.{◌≡◌}
use Rattle.house_base.specs.Text.{Text}
use Rattle.house_model.specs.declared.goal.Goal.{Goal}
use Rattle.house_model.specs.Ending.{Ended, in_force}
use Rattle.house_model.specs.EndTexts.{IsTextOfEnd}
use Rattle.house_model.specs.Headline.{AreOfCall}
use Rattle.house_model.specs.Runs.{end_of, halt}
use Rattle.house_model.specs.Text.{Lines}
use Rattle.end_text.specs.declared.end.RunEnd.{RunEnd}
use Rattle.end_text.specs.declared.end.RunEnd.TheVariants as run

-- the end to which lines come in a run that has ended so
abbrev pub ended_as : RunEnd → Ended
ended_as run.Done = Ended.Done
ended_as run.Settled = Ended.Settled
ended_as (run.Refused line reason) = Ended.Refused line reason
ended_as run.Short = Ended.Short

-- A run has ended as lines end for a goal, with the text of this end; and where it came to its report, the lines are those
-- of a whole call.
pub record IsEndOf (g : Goal) (lines : Lines) (end : RunEnd) (text : Text) : Type 0 where
  pub ends : ended_as end ≡ end_of g lines
  pub says : IsTextOfEnd (end_of g lines) g (in_force (halt g) lines) text
  pub of_call : end ≡ run.Done → AreOfCall lines
