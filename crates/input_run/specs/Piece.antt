-- Input, taken and heard in pieces.
use Rattle.std.specs.Prelude.{◌-◌, ◌<◌, Option, Some, None, Result, IfOk, IsErrOf}
use Rattle.house_base.specs.Text.{Text}
use Rattle.house_model.specs.declared.goal.Goal.{Goal}
use Rattle.house_model.specs.declared.limits.TheConstants.{MOST_BYTES}
use Rattle.house_model.specs.Text.{Lines}
use Rattle.input_run.specs.declared.fault.InputFault.{InputFault}
use Rattle.input_run.specs.declared.fault.InputFault.TheVariants as fault
use Rattle.input_run.specs.declared.hearing.Hearing.{Hearing}
use Rattle.input_run.specs.declared.input.Heard.TheVariants as what
use Rattle.input_run.specs.declared.piece.HearingEnd.{HearingEnd}
use Rattle.input_run.specs.declared.piece.HearingEnd.TheVariants as end
use Rattle.input_run.specs.Hearing.{HasHeard, HearsWhereTold}
use Rattle.input_run.specs.Input.{DecidedWhereTold, EndsWhereTold, NoFurtherWhereTold, TakesWhereTold, UndecidedWhereTold}

-- what was taken of an input so far was heard
abbrev pub HasHeardAll : Goal → Lines → Option Text → Option Text → Hearing → Type 0
HasHeardAll g opening before after h = (bytes : Text) × TakesWhereTold before after bytes × HasHeard g opening bytes h

-- a run hears no more of an input, for a reason
abbrev pub EndsHearing : Goal → Lines → Option Text → Option Text → Hearing → HearingEnd → Type 0
EndsHearing g opening before after h end.AtEnd = HasHeardAll g opening before after h × EndsWhereTold before after
EndsHearing g opening before after h end.Ended =
    HearsWhereTold g opening before after (what.Lines h.run) × DecidedWhereTold g opening before after
EndsHearing g opening before after h end.Over =
    HearsWhereTold g opening before after what.TooLong × DecidedWhereTold g opening before after

-- a run has heard more of an input, or it hears no more of it
abbrev pub HearsMore : Goal → Lines → Option Text → Option Text → Hearing → Hearing → Option HearingEnd → Type 0
HearsMore g opening before after old new None =
    HasHeardAll g opening before after new × (MOST_BYTES - new.bytes < MOST_BYTES - old.bytes)
HearsMore g opening before after old new (Some end) = EndsHearing g opening before after new end

-- An input was taken with this result, of which a fact holds; and what was taken decides nothing where the source failed.
pub record TakesInput {X : Type 0} (g : Goal) (opening : Lines) (before after : Option Text) (result : Result X InputFault)
    (Has : X → Type 0) : Type 0 where
  pub has : IfOk result Has
  pub undecided : IsErrOf result fault.Failed → UndecidedWhereTold g opening before after
  pub no_further : NoFurtherWhereTold g opening before after
