use Rattle.std.specs.Prelude.{Option, Some, None, ◌++◌, if◌then◌else◌, ◌&&◌, not}
use Rattle.house_base.specs.Text.{Text}
use Rattle.house_model.specs.declared.goal.Goal.{Goal}
use Rattle.house_model.specs.Ending.{Ended}
use Rattle.house_model.specs.Heard.{heard, is_over}
use Rattle.house_model.specs.Runs.{end_of, ends_run}
use Rattle.house_model.specs.Text.{Lines}

-- How a run for a goal ends that has taken opening lines and goes on with the lines of an input. Where no line within its
-- limits ends the run, an input over them is too long, and there is no end. The limits count the input alone.
unfoldable pub outcome : Goal → Lines → Text → Option Ended
outcome g opening input =
    if is_over input && not (ends_run g (opening ++ heard input)) then None else Some (end_of g (opening ++ heard input))
