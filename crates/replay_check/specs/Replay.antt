-- What a replay says of a file.
use Rattle.std.specs.Prelude.{◌≡◌, ℕ, Option, Some, None, Ok, length}
use Rattle.audit_chain.specs.File.{lines_held}
use Rattle.house_base.specs.Text.{Text}
use Rattle.house_model.specs.declared.goal.Goal.TheVariants as goal
use Rattle.house_model.specs.Ending.{Ended}
use Rattle.house_model.specs.Runs.{end_of}
use Rattle.house_model.specs.Text.{Lines}
use Rattle.replay_check.specs.declared.differ.Difference.{Difference}
use Rattle.replay_check.specs.declared.replay_audit.Ending.{Ending}
use Rattle.replay_check.specs.declared.replay_audit.Ending.TheVariants as ending
use Rattle.replay_check.specs.declared.replay_audit.Replayed.{Replayed}
use Rattle.replay_check.specs.declared.replay_audit.Replayed.TheVariants.{Same, Differs}
use Rattle.replay_check.specs.Audit.{DiffersFromAudit}

-- how lines end that are run for the report, which no assignment settles
abbrev pub ending_as : Ended → Ending
ending_as Ended.Done = ending.Done
ending_as Ended.Settled = ending.Done
ending_as (Ended.Refused line reason) = ending.Refused
ending_as Ended.Short = ending.Short

abbrev pub IsSame : Replayed → Type 0
IsSame (Same count end) = Unit {0}
IsSame (Differs number kept right) = ⊥

abbrev pub IsDiffers : Replayed → Type 0
IsDiffers (Same count end) = ⊥
IsDiffers (Differs number kept right) = Unit {0}

-- where the file is the same, the number and the ending are those of the lines that it holds
abbrev pub SaysSame : Text → Replayed → Type 0
SaysSame bytes (Same count end) =
    (lines : Lines) × (lines_held bytes ≡ Ok lines) × (count ≡ length lines) × (end ≡ ending_as (end_of goal.Run lines))
SaysSame bytes (Differs number kept right) = Unit {0}

-- where it differs, the row is the first that does
abbrev pub DiffersFirst : Text → Replayed → Type 0
DiffersFirst bytes (Same count end) = Unit {0}
DiffersFirst bytes (Differs number kept right) = DiffersFromAudit bytes number kept right

-- what is said where a row differs, and where none does and the lines are so many and end so
abbrev pub replayed_of : Option Difference → ℕ → Ending → Replayed
replayed_of (Some found) count end = Differs found.number found.kept found.right
replayed_of None count end = Same count end
