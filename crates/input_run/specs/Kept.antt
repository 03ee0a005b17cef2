-- The lines that a run has taken, and those that it keeps.
use Rattle.std.specs.Prelude.{◌≡◌, Bool, [], ◌∷◌, ◌++◌, Option, Some, None, IfSome, is_some}
use Rattle.house_base.specs.declared.answer.Took.{Took}
use Rattle.house_base.specs.Text.{Text}
use Rattle.house_core.specs.House.{StandsFor}
use Rattle.house_model.specs.declared.goal.Goal.{Goal}
use Rattle.house_model.specs.Ending.{in_force}
use Rattle.house_model.specs.LineMarks.{marks_after}
use Rattle.house_model.specs.Runs.{halt}
use Rattle.house_model.specs.Text.{Lines}
use Rattle.input_run.specs.declared.input.Heard.{Heard}
use Rattle.input_run.specs.declared.input.Heard.TheVariants as what
use Rattle.input_run.specs.declared.kept.Kept.{Kept}
use Rattle.input_run.specs.declared.line_run.LineRun.{LineRun}

-- these lines are kept, with what became of each in a run for a goal
pub record AreKept (g : Goal) (these : Lines) (kept : Kept) : Type 0 where
  pub lines : kept.lines ≡ these
  pub marks : kept.marks.items ≡ marks_after g [] these

-- A run has taken these lines: its house stands for them, and where it keeps lines, it has those that ended no run.
pub record HasTaken (g : Goal) (lines : Lines) (run : LineRun) : Type 0 where
  pub stands : StandsFor g lines run.house
  pub kept : IfSome run.kept (AreKept g (in_force (halt g) lines))

-- where lines are kept, one more is kept with what became of it
abbrev pub KeepsMore : Option Kept → Option Kept → Text → Took → Type 0
KeepsMore None None line took = Unit {0}
KeepsMore None (Some after) line took = ⊥
KeepsMore (Some before) None line took = ⊥
KeepsMore (Some before) (Some after) line took =
    (after.lines ≡ before.lines ++ line ∷ []) × (after.marks.items ≡ before.marks.items ++ took ∷ [])

-- whether a run keeps the lines that it takes
abbrev pub keeps : LineRun → Bool
keeps run = is_some run.kept

-- what was heard is a run that keeps lines just where this one does, or too much
abbrev pub KeepsOn : LineRun → Heard → Type 0
KeepsOn before (what.Lines run) = keeps run ≡ keeps before
KeepsOn before what.TooLong = Unit {0}
