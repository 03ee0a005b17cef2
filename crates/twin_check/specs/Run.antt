-- A run of lines, up to one that ends it.
use Rattle.std.specs.Prelude.{◌≡◌, ◌-◌, ◌^◌, ◌<◌, length}
use Rattle.house_core.specs.House.{Standing, StandsFor}
use Rattle.house_model.specs.declared.goal.Goal.TheVariants as goal
use Rattle.house_model.specs.Ending.{Ended}
use Rattle.house_model.specs.Headline.{AreOfCall}
use Rattle.house_model.specs.Runs.{end_of}
use Rattle.house_model.specs.Text.{Lines}

-- A house has run these lines for the report, up to one that ends the run: all, where they are done.
pub record HasRun (lines : Lines) (house : Standing) : Type 0 where
  pub front : Lines
  pub stands : StandsFor goal.Run front house
  pub few : length front < 2 ^ 64 - 1
  pub same_end : end_of goal.Run front ≡ end_of goal.Run lines
  pub whole : end_of goal.Run front ≡ Ended.Done → front ≡ lines

-- Lines that are done are those of a whole call.
abbrev pub AreOfCallWhereDone : Lines → Type 0
AreOfCallWhereDone lines = end_of goal.Run lines ≡ Ended.Done → AreOfCall lines
