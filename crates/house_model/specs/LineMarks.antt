use Rattle.std.specs.Prelude.{◌-◌, List, [], ◌∷◌, ◌++◌, length, replicate}
use Rattle.house_base.specs.declared.answer.Took.{Took}
use Rattle.house_base.specs.declared.answer.Took.TheVariants as took
use Rattle.house_model.specs.declared.goal.Goal.{Goal}
use Rattle.house_model.specs.declared.goal.Goal.TheVariants as goal
use Rattle.house_model.specs.Reviews.{took_of}
use Rattle.house_model.specs.Runs.{taken}
use Rattle.house_model.specs.Text.{Lines}

-- What becomes of each line of a run.

-- what becomes of each of these lines, where they come after those before and none ends the run
abbrev pub marks_after : Goal → Lines → Lines → List Took
marks_after g before [] = []
marks_after g before (line ∷ lines) = took_of g before line ∷ marks_after g (before ++ line ∷ []) lines

-- The marks of the lines of a run for the report: what was set aside and why. The line that ends the run has none, and
-- none behind it.
unfoldable pub marks : Lines → List Took
marks lines =
    marks_after goal.Run [] (taken goal.Run lines)
    ++ replicate (length lines - length (taken goal.Run lines)) took.Kept
