-- What becomes of a file that is to be brought to the second version.
use Rattle.std.specs.Prelude.{◌≡◌, ℕ, Ok, length}
use Rattle.audit_chain.specs.File.{lines_held}
use Rattle.house_base.specs.Text.{Text}
use Rattle.house_model.specs.Text.{Lines}
use Rattle.replay_check.specs.declared.migrate_audit.Migrated.{Migrated}
use Rattle.replay_check.specs.declared.migrate_audit.Migrated.TheVariants.{Moved, Differs}
use Rattle.replay_check.specs.Audit.{DiffersFromAudit, IsAuditOf}

abbrev pub IsMoved : Migrated → Type 0
IsMoved (Moved fresh count) = Unit {0}
IsMoved (Differs number kept right) = ⊥

abbrev pub IsDiffers : Migrated → Type 0
IsDiffers (Moved fresh count) = ⊥
IsDiffers (Differs number kept right) = Unit {0}

-- where the file is brought over, what is made is the audit of the second version of the lines that it holds
abbrev pub SaysMoved : Text → Migrated → Type 0
SaysMoved bytes (Moved fresh count) =
    (lines : Lines) × (lines_held bytes ≡ Ok lines) × IsAuditOf 2 lines fresh × (count ≡ length lines)
SaysMoved bytes (Differs number kept right) = Unit {0}

-- where it differs, the row is the first that does
abbrev pub DiffersFirst : Text → Migrated → Type 0
DiffersFirst bytes (Moved fresh count) = Unit {0}
DiffersFirst bytes (Differs number kept right) = DiffersFromAudit bytes number kept right

-- what is made is this audit, of so many lines
abbrev pub IsMovedTo : Text → ℕ → Migrated → Type 0
IsMovedTo audit lines (Moved fresh count) = (fresh ≡ audit) × (count ≡ lines)
IsMovedTo audit lines (Differs number kept right) = ⊥
