-- What is said of a file as an audit, as a function of its bytes.
use Rattle.std.specs.Prelude.{◌+◌, ℕ, List, [], ◌∷◌, Option, Some, None, Result, Ok, Err, length, if◌then◌else◌}
use Rattle.std.specs.Str.{bytes_eq}
use Rattle.audit_chain.specs.Chain.{audit_bytes}
use Rattle.audit_chain.specs.File.{lines_held, rows, version_held}
use Rattle.audit_chain.specs.declared.fault.RowFault.{RowFault}
use Rattle.end_text.specs.Text.{end_text_of}
use Rattle.house_base.specs.Text.{Text}
use Rattle.house_model.specs.declared.goal.Goal.TheVariants as goal
use Rattle.house_model.specs.LineMarks.{marks}
use Rattle.house_model.specs.Runs.{end_of}
use Rattle.house_model.specs.Text.{Lines}
use Rattle.replay_check.specs.declared.differ.Difference.{Difference}
use Rattle.replay_check.specs.declared.migrate_audit.Migrated.{Migrated}
use Rattle.replay_check.specs.declared.migrate_audit.Migrated.TheVariants as migrated
use Rattle.replay_check.specs.declared.replay_audit.Replayed.{Replayed}
use Rattle.replay_check.specs.Replay.{ending_as, replayed_of}

-- the audit of a version of these lines
abbrev pub audit_of : ℕ → Lines → Text
audit_of version lines = audit_bytes version lines (marks lines) (end_text_of lines)

-- the first row of two lists that is not the same in both, where the first row has this number
unfoldable pub first_difference : ℕ → List Text → List Text → Option Difference
first_difference number (kept ∷ more) (right ∷ others) =
    if bytes_eq kept right then first_difference (number + 1) more others
    else Some (record { number = number; kept = kept; right = right })
first_difference number kept right = None

-- the first row in which a file is not the audit of these lines
abbrev pub difference_from : Text → ℕ → Lines → Option Difference
difference_from bytes version lines = first_difference 1 (rows bytes) (rows (audit_of version lines))

-- what is said of a file that holds these lines and names this version
abbrev pub said_of : {A : Type 0} → (ℕ → Lines → A) → Result Lines RowFault → Result ℕ RowFault → Result A RowFault
said_of say (Ok lines) (Ok version) = Ok (say version lines)
said_of say (Ok lines) (Err fault) = Err fault
said_of say (Err fault) version = Err fault

-- what the replay of a file says
unfoldable pub replay_of : Text → Result Replayed RowFault
replay_of bytes =
    said_of (λ version lines. replayed_of (difference_from bytes version lines) (length lines) (ending_as (end_of goal.Run lines)))
    (lines_held bytes) (version_held bytes)

-- what is made where no row differs, of so many lines
abbrev pub migrated_of : Option Difference → Text → ℕ → Migrated
migrated_of (Some found) audit count = migrated.Differs found.number found.kept found.right
migrated_of None audit count = migrated.Moved audit count

-- what becomes of a file that is to be brought to the second version
unfoldable pub migration_of : Text → Result Migrated RowFault
migration_of bytes =
    said_of (λ version lines. migrated_of (difference_from bytes version lines) (audit_of 2 lines) (length lines))
    (lines_held bytes) (version_held bytes)
